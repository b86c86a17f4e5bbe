-- Month: what is collected, and what is paid out.
use Rattle.std.specs.Prelude.{ℕ, Bool, false, ◌||◌, not, List, [], ◌∷◌, eqb, ltb, ℤ, length}
use Rattle.basics.specs.Lists.{sum}
use Rattle.basics.specs.Refusals.{Refusal, refuse, answer, outcome}
use Rattle.netting.specs.Accounts.{member_count, owed, claims, debts}
use Rattle.netting.specs.Shares.{shares}

-- R5, Refusals: a list of this many collected amounts is neither empty nor one of 32
abbrev pub bad_amounts : ℕ → Bool
bad_amounts collected = not (eqb collected 0 || eqb collected member_count)

-- R5, Refusals: Month is refused if there are neither 0 nor 32 collected amounts, or if there are not exactly 32 places
-- for payouts
abbrev pub bad_lists : ℕ → ℕ → Bool
bad_lists collected places = bad_amounts collected || not (eqb places member_count)

-- R19, Refusals: Month is refused if an amount is above what its member owes. An empty list has no amount.
unfoldable pub over_collected : List ℤ → List ℕ → Bool
over_collected [] cs = false
over_collected (a ∷ accounts) [] = false
over_collected (a ∷ accounts) (c ∷ cs) = ltb (owed a) c || over_collected accounts cs

-- M11, Month; A13, R5, R19 and R21, Refusals: the refusals of Month; since says whether a Close was accepted since Open
-- or since the last accepted Month. That all accounts are zero is no reason to refuse it.
unfoldable pub month_refusals : List ℤ → Bool → List ℕ → ℕ → List Refusal
month_refusals accounts since collected places =
    refuse 5 (bad_lists (length collected) places)
    ∷ refuse 19 (over_collected accounts collected)
    ∷ refuse 21 (not since)
    ∷ []

-- A13, Refusals: the answer number of Month, with this many places for payouts
abbrev pub month_answer_by : List ℤ → Bool → List ℕ → ℕ → ℕ
month_answer_by accounts since collected places = answer (month_refusals accounts since collected places)

-- M3 and M12, Month: what the members paid, if these are their debts. If the list of collected amounts is empty, each
-- of them paid its debt. Any other list has the amounts that they paid.
abbrev pub amounts_paid : List ℕ → List ℕ → List ℕ
amounts_paid owing [] = owing
amounts_paid owing (c ∷ cs) = c ∷ cs

-- M5, M6 and M12, Month: the shares of the claims in what was collected
abbrev pub payouts_of : List ℤ → List ℕ → List ℕ
payouts_of accounts collected = shares (sum (amounts_paid (debts accounts) collected)) (claims accounts)

-- M3, Month; A5, Refusals: every word of the places for payouts as the call ends
unfoldable pub paid_out : List ℤ → Bool → List ℕ → List ℕ → List ℕ
paid_out accounts since collected places =
    outcome (month_answer_by accounts since collected (length places)) (payouts_of accounts collected) (λ n. places)
