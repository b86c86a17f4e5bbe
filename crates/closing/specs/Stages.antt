-- What a Close does to an obligation of number n that is due, in the order of the chapter Close.
use Rattle.std.specs.Prelude.{ℕ, Bool, List, [], ◌∷◌, eqb}
use Rattle.basics.specs.Choice.{pick}
use Rattle.amounts.specs.Amounts.{penalty, compensation, charge}
use Rattle.offers.specs.declared.Offer.{Offer}
use Rattle.offers.specs.declared.Given.{Given}
use Rattle.offers.specs.BuyIn.{given}
use Rattle.ledger.specs.declared.Terms.{Terms}
use Rattle.ledger.specs.declared.Part.TheVariants.{BoughtIn, Compensated}
use Rattle.ledger.specs.declared.Obligation.{Obligation}
use Rattle.ledger.specs.Obligations.{with_grace_price, last_of, in_buy_in, cash_of, moving, moving_all}
use Rattle.closing.specs.declared.DayEnd.{DayEnd}
use Rattle.closing.specs.declared.Measures.{Measures}
use Rattle.closing.specs.declared.Line.{Line}
use Rattle.closing.specs.Lines.{penalty_kind, notice_kind, bought_kind, compensation_kind, Made, nothing, one, then}

-- C13, Close: a line whose last two words, supplier and price of the offer, are 0
abbrev pub plain_line : ℕ → ℕ → ℕ → ℕ → Line
plain_line kind n q cents = record { kind = kind; obligation = n; quantity = q; cents = cents; supplier = 0; price = 0 }

-- B9, Buy-in: the Close at age = grace stores its price in the obligation
unfoldable pub priced : Terms → ℕ → ℕ → Obligation → Obligation
priced terms age price o = pick (eqb age terms.grace.0) (with_grace_price price o) o

-- C4, Close: the penalty of an obligation at the end of a day, on all that is outstanding
unfoldable pub penalty_on : DayEnd → Obligation → ℕ
penalty_on d o = penalty o.parts.outstanding d.price d.rate

-- C6, C7 and C10, Close: what is done to an obligation besides its penalty is decided once, as the Close begins. A
-- notice comes at age = notice, the buy-in at ages above grace up to last, and compensation at age = last.
unfoldable pub measures_at : Terms → ℕ → Obligation → Measures
measures_at terms age o = record {
  notice = eqb age terms.notice.0;
  buy_in = in_buy_in terms.grace.0 (last_of terms o) age;
  compensation = eqb age (last_of terms o);
}

-- C4, C12 and C13, Close: a penalty is a line with its cents, on all that is outstanding
unfoldable pub penalised : ℕ → ℕ → Obligation → Made
penalised n cents o = one o (plain_line penalty_kind n o.parts.outstanding cents)

-- C6, C12 and C13, Close: a notice is a line with 0 cents, if there is to be one
unfoldable pub notice_at : Bool → ℕ → Obligation → Made
notice_at comes n o = pick comes (one o (plain_line notice_kind n o.parts.outstanding 0)) (nothing o)

-- C9 and C12, Close: the line of what one offer gives. Its charge is the value less the cash, and the cash continues
-- from the units that were settled before it.
abbrev pub bought_line : ℕ → Given → Obligation → Line
bought_line n g o = record {
  kind = bought_kind;
  obligation = n;
  quantity = g.quantity;
  cents = charge g.quantity g.offer.price (cash_of o g.quantity);
  supplier = g.offer.supplier;
  price = g.offer.price;
}

-- C8, Close: what one offer gives is bought in and makes a line
unfoldable pub bought_from : ℕ → Given → Obligation → Made
bought_from n g o = one (moving BoughtIn g.quantity o) (bought_line n g o)

-- C9 and C14, Close: one line for each offer that gives, one after another
unfoldable pub bought_all : ℕ → List Given → Obligation → Made
bought_all n [] o = nothing o
bought_all n (g ∷ gs) o = then (bought_from n g o) (bought_all n gs)

-- C7, Close: the buy-in, if there is to be one. The offers for the obligation give in the order of the list `offers`.
-- In a book this is the order of C7: rising price, then earlier entry. It comes from offers/specs: Offer puts each new
-- offer at its place among those that the book holds (`withOffer` in Held.antt), and `overtakes` in Rank.antt says
-- which place that is. The clause `buy_ins` of the promise in journal/proofs/Demand3.antt says the same of every Close
-- of every journal, from the offers as they were entered.
unfoldable pub buy_in_at : Bool → List Offer → ℕ → Obligation → Made
buy_in_at comes offers n o =
    pick comes (bought_all n (given n o.parts.outstanding offers) o) (nothing o)

-- C10 and C12, Close: what is left, unless it is 0, is compensated and makes a line
unfoldable pub compensated : ℕ → ℕ → Obligation → Made
compensated price n o =
    pick (eqb o.parts.outstanding 0) (nothing o)
    (one (moving_all Compensated o) (plain_line compensation_kind n o.parts.outstanding (compensation o.parts.outstanding price)))

-- C10, Close: the compensation, if there is to be one
unfoldable pub compensated_at : Bool → ℕ → ℕ → Obligation → Made
compensated_at comes price n o = pick comes (compensated price n o) (nothing o)
