-- `read_numbers` meets its contract. The loop's invariant is `Collected`: the numbers so far stand in the first places,
-- and with those of the other words they are all the numbers.
use Rattle.std.proofs.Common.{rules, tests, arith, ◌≡◌, refl, ◌+◌, [], ◌∷◌, eqb, drop, sym, ◌∙◌}
use Rattle.std.proofs.lemmas.List.{length_push}
use Rattle.std.proofs.lemmas.Iterator.Consumers.{YieldsList-turn, YieldsList-end}
use Rattle.std.proofs.lemmas.Iterator.Splits.{YieldsList-from_slice_split}
use Rattle.writing.specs.Words.{space}
use Rattle.reading.specs.Words.{words_of}
use Rattle.reading.proofs.Splitting.{next_word, last_word}
use Rattle.reading.proofs.Collecting.{collected_none, collected_fails, collected_full, collected_last, collected_more}
use Rattle.reading.proofs.read_numbers.Goals as goal
use Rattle.reading.proofs.read_numbers.Goals.{In-Some, In-None}

-- a turn has the next word of the line
turn : (c : In-Some) → drop c.loop-word.count (words_of c.args.line.now) ≡ c.in-Some.word.now ∷ drop (c.loop-word.count + 1) (words_of c.args.line.now)
turn c =
    let words = YieldsList-from_slice_split _ (λ b. eqb b space) c.args.line.now (cc) (cc) (cc) (λ x b q k. search (rules, tests)) in
    rw c.loop-word.invariant.0
    (next_word _ _ _ (YieldsList-turn words c.loop-word.yielded _ c.loop-word.yielded_by _ _ c.in-Some.word c.in-Some.is c.next.ensures.steps))

-- after the last turn no word is left
ended : (c : In-None) → drop c.loop-word.count (words_of c.args.line.now) ≡ []
ended c =
    let words = YieldsList-from_slice_split _ (λ b. eqb b space) c.args.line.now (cc) (cc) (cc) (λ x b q k. search (rules, tests)) in
    rw c.loop-word.invariant.0
    (last_word _ _ (YieldsList-end words c.loop-word.yielded _ c.loop-word.yielded_by _ _ c.in-None.is c.next.ensures.steps).1)

pub loop-word-init : goal.loop-word-init
loop-word-init c = (refl, collected_none _ _)

pub returns-then-count-numbers : goal.returns-then-count-numbers
returns-then-count-numbers c =
    let o = collected_full _ _ _ _ c.loop-word.invariant.1 _ (turn (goal.at.returns-then-count-numbers c).In-Some) (omega arith) in
    record { value = o.0; numbers_after = o.1 }

pub returns-in_err-numbers : goal.returns-in_err-numbers
returns-in_err-numbers c =
    let o = collected_fails _ _ _ _ c.loop-word.invariant.1 _ (turn (goal.at.returns-in_err-numbers c).In-Some) (sym c.in_err-numbers.was ∙ c.number_of.ensures) in
    record { value = c.from_residual.ensures ∙ o.0; numbers_after = o.1 }

pub bounds-numbers-count : goal.bounds-numbers-count
bounds-numbers-count c = omega (arith, c.loop-word.invariant.1.room)

pub loop-word-preserved : goal.loop-word-preserved
loop-word-preserved c = (
  omega (arith, length_push c.loop-word.yielded c.in-Some.word),
  collected_more _ _ _ _ c.loop-word.invariant.1 _ (turn (goal.at.loop-word-preserved c).In-Some) _ (sym c.in_ok-numbers.was ∙ c.number_of.ensures) (omega (arith, c.loop-word.invariant.1.room)),
)

pub returns : goal.returns
returns c =
    let o = collected_last _ _ _ _ c.loop-word.invariant.1 (ended (goal.at.returns c).In-None) in
    record { value = o.0; numbers_after = o.1 }
