-- A number below 100 has one digit or two. Any other number has the digits of its hundredth part, and then two more.
use Rattle.std.proofs.Common.{◌≡◌, ◌+◌, ◌-◌, ◌/◌, ◌∷◌, ◌++◌, List, ℕ, refl, sym, ap, ◌∙◌, arith, rules, length, drop, append_assoc, append-nil}
use Rattle.std.proofs.lemmas.List.{drop_all}
use Rattle.std.proofs.lemmas.Grind.{drop-set_at}
use Rattle.writing.specs.Digits.{digit, digits_of}
use Rattle.writing.proofs.Digits.{digits_one, digits_pair, digits_more, digits_shorter, digits_most}
use Rattle.writing.proofs.put_digits.Goals as goal

pub loop-left-init : goal.loop-left-init
loop-left-init c =
    let places : length c.args.places.now ≡ 20 = search rules in
    (rw (drop_all 20 c.args.places.now (omega arith)) (sym (append-nil _)), digits_most c.args.n, omega arith, places)

pub put_pair-first-requires : goal.put_pair-first-requires
put_pair-first-requires c =
    let i = c.loop-left.invariant in
    (omega arith, omega (arith, i, digits_shorter _ c.loop-left-test.true c.loop-left.auto.left-fits.fits), omega (arith, i))

pub loop-left-preserved : goal.loop-left-preserved
loop-left-preserved c =
    let left = c.loop-left.left in
    let fits = c.loop-left.auto.left-fits.fits in
    let i = c.loop-left.invariant in
    let p = c.put_pair-first.ensures in (
      i.0
          ∙ ap (λ (l : List ℕ). l ++ drop c.loop-left.first c.loop-left.places) (digits_more left c.loop-left-test.true fits)
          ∙ append_assoc (digits_of (left / 100)) _ _
          ∙ ap (λ (l : List ℕ). digits_of (left / 100) ++ l) (sym p.stands),
      omega (arith, p.place, i, digits_shorter left c.loop-left-test.true fits),
      omega (arith, p.place, i),
      search rules,
    )

pub put_pair-requires : goal.put_pair-requires
put_pair-requires c =
    let i = c.loop-left.invariant in
    let two = ap length (digits_pair c.loop-left.left c.if-left-ge10.true (omega arith)) in
    (omega arith, omega (arith, i, two), omega (arith, i))

pub returns-then-left-ge10 : goal.returns-then-left-ge10
returns-then-left-ge10 c =
    let i = c.loop-left.invariant in
    let p = c.put_pair.ensures in
    let two = digits_pair c.loop-left.left c.if-left-ge10.true (omega arith) in
    record {
      place = omega (arith, p.place, i);
      stands = p.stands ∙ ap (λ (l : List ℕ). l ++ drop c.loop-left.first c.loop-left.places) (sym two) ∙ sym i.0;
    }

pub overflow_sub-places : goal.overflow_sub-places
overflow_sub-places c = omega (arith, c.loop-left.invariant, ap length (digits_one c.loop-left.left (omega arith)))

pub overflow_sub-result : goal.overflow_sub-result
overflow_sub-result c = omega (arith, c.loop-left.invariant, ap length (digits_one c.loop-left.left (omega arith)))

pub returns : goal.returns
returns c =
    let i = c.loop-left.invariant in
    let first = c.loop-left.first in
    let one = digits_one c.loop-left.left (omega arith) in
    let some = ap length one in
    let next : first - 1 + 1 ≡ first = omega (arith, i, some) in
    record {
      place = omega (arith, i);
      stands =
          drop-set_at c.loop-left.places (first - 1) (first - 1) (48 + c.loop-left.left) refl (omega (arith, i, some))
          ∙ ap (λ (k : ℕ). digit c.loop-left.left ∷ drop k c.loop-left.places) next
          ∙ ap (λ (l : List ℕ). l ++ drop first c.loop-left.places) (sym one)
          ∙ sym i.0;
    }
