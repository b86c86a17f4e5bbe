-- What a Month leaves: a valid book, of which every account is zero. A Month that is given what each account owes gives
-- what an empty one gives.
use Prim.Native.Nat.{ℕ, zero, suc}
use native.Mathlib.Omega.{arith}
use mathlib.Core.Path.{◌≡◌, refl, ap}
use mathlib.Core.List.{List, []}
use lib.IntN.{ℤ, pos}
use lib.ListN.{get_or, replicate}
use Rattle.basics.specs.Refusals.{outcome}
use Rattle.basics.proofs.Refusals.{outcome_case}
use Rattle.netting.specs.Accounts.{debts, balance, Bounded}
use Rattle.payments.proofs.Everybody.{typed_number, typed_words}
use Rattle.book.specs.declared.Book.{Book}
use Rattle.book.specs.declared.Done.{Done}
use Rattle.book.specs.Book.{age_of, Valid}
use Rattle.book.specs.Instructing.{done_refused}
use Rattle.book.specs.Month.{month_book, month, month_words}

-- an account of accounts that are all zero
pub zero_at : (n m : ℕ) → get_or (replicate n (pos 0)) m (pos 0) ≡ pos 0
zero_at zero m = refl
zero_at (suc n) zero = refl
zero_at (suc n) (suc m) = zero_at n m

-- the accounts are within what a Month asks
pub accounts_bounded : (b : Book) → Valid b → Bounded b.ledger.accounts
accounts_bounded b v m = omega (arith, v.accounts_near m, v.day.today_most)

pub paid_valid : (b : Book) → Valid b → Valid (month_book b)
unfolding balance age_of
paid_valid b v = record {
  setup = v.setup;
  day = record { today_clears = v.day.today_clears; today_most = v.day.today_most };
  legs = v.legs;
  ledger = record {
    size = v.ledger.size;
    few = v.ledger.few;
    sound = v.ledger.sound;
    offers = v.ledger.offers;
    accounts = record { size = refl; even = refl };
  };
  last = v.last;
  rates = v.rates;
  room = v.room;
  timely = λ n h. record { clears = (v.timely n h).clears; young = (v.timely n h).young };
  accounts_near = λ m. rw (zero_at 32 m) (omega arith);
}

pub month_valid : (b : Book) → Valid b → (collected : List ℕ) (places : ℕ) → Valid (month b collected places).book
unfolding month
month_valid b v collected places = outcome_case (λ (r : Done). Valid r.book) _ _ (done_refused b) (λ k. v) (λ e. paid_valid b v)

-- M13, Month: the accounts of a valid book are 32, so that a list of what each of them owes has the right length
module _ (b : Book) (v : Valid b) where
  abbrev accounts : List ℤ
  accounts = b.ledger.accounts

  pub month_typed : (places : ℕ) → month b (debts accounts) places ≡ month b [] places
  unfolding month
  month_typed places =
      ap (λ (n : ℕ). outcome n (record { answer = 0; book = month_book b }) (done_refused b))
      (typed_number accounts v.ledger.accounts.size b.day.close_since places)

  pub words_typed : (places : List ℕ) → month_words b (debts accounts) places ≡ month_words b [] places
  words_typed = typed_words accounts v.ledger.accounts.size b.day.close_since
