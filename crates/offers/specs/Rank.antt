-- The order of the auction, in which the offers of a day give (C7, Close).
use Rattle.std.specs.Prelude.{ℕ, ◌≤◌, ◌<◌, ◌≡◌, Bool, length, ltb}
use mathlib.Core.List.{List, [], ◌∷◌, map, Perm}
use Rattle.basics.specs.Choice.{pick}
use Rattle.basics.specs.Lists.{Sorted}
use Rattle.offers.specs.declared.Offer.{Offer}

-- C7, Close: whether a later offer x overtakes an earlier offer y. It does at a lower price only. At the same price the
-- earlier one stays ahead, whatever the quantities are.
unfoldable pub overtakes : Offer → Offer → Bool
overtakes x y = ltb x.price y.price

-- the list with o put ahead of the first element that it overtakes by this test, or at the end if it overtakes none
unfoldable pub inserted_by : {A : Type 0} → (A → A → Bool) → A → List A → List A
inserted_by over o [] = o ∷ []
inserted_by over o (y ∷ ys) = pick (over o y) (o ∷ y ∷ ys) (y ∷ inserted_by over o ys)

-- C7, Close: the offers with a new one put ahead of the first that it overtakes, or at the end if it overtakes none
abbrev pub inserted : Offer → List Offer → List Offer
inserted = inserted_by overtakes

-- elements that were entered one after another, ranked by the test; the last one entered is at the head of the given
-- list
unfoldable pub ranked_by : {A : Type 0} → (A → A → Bool) → List A → List A
ranked_by over [] = []
ranked_by over (o ∷ earlier) = inserted_by over o (ranked_by over earlier)

-- C7, Close: the offers by rising price, then earlier entry
abbrev pub ranked : List Offer → List Offer
ranked = ranked_by overtakes

-- an offer, with its place in the order of entry
pub record Entry : Type 0 where
  pub offer : Offer
  pub place : ℕ

-- C7, Close: x is taken before y: its price is not higher, and at the same price it was entered earlier, whatever the
-- quantities are
pub record TakenBefore (x y : Entry) : Type 0 where
  pub price : x.offer.price ≤ y.offer.price
  pub entry : x.offer.price ≡ y.offer.price → x.place < y.place

-- the entered offers with their places; the last one entered is at the head
unfoldable pub numbered : List Offer → List Entry
numbered [] = []
numbered (o ∷ earlier) = record { offer = o; place = length earlier } ∷ numbered earlier

-- C7, Close: xs are all the entered offers, each once, in the order of C7
pub record InOrder (entered xs : List Offer) : Type 0 where
  pub entries : List Entry
  pub these : map (λ e. e.offer) entries ≡ xs
  pub all : Perm entries (numbered entered)
  pub order : Sorted TakenBefore entries
