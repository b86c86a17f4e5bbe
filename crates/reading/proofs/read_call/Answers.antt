-- `read_call` meets its contract: there is a law on what is told of the line for each place where the function returns.
use Rattle.std.proofs.Common.{rules, tests, arith, ◌≡◌, ◌≤◌, ◌+◌, eqb, length, take, sym, ◌∙◌}
use Rattle.std.proofs.lemmas.Iterator.{YieldsList-from_slice}
use Rattle.std.proofs.lemmas.Iterator.Search.{position_from_yields_List}
use lib.Seq.{length-take-le}
use Rattle.writing.specs.Words.{space}
use Rattle.reading.specs.Words.{first_word}
use Rattle.reading.proofs.Splitting.{word_at, word_length, whole_tail}
use Rattle.reading.proofs.Understanding.{Headed, Told, shaped, is_made, unnamed, alone, not_all, count_within, is_shaped}
use Rattle.reading.proofs.read_call.Goals as goal
use Rattle.reading.proofs.read_call.Goals.{After-unwrap_or-end, In_ok-name, Joined-end-line, then-end-line, else-end-line+in_ok-count}

-- the first word ends at the first space, or at the end of the line
ends : (c : After-unwrap_or-end) → c.unwrap_or-end.result ≡ length (first_word c.args.line.now)
ends c =
    c.unwrap_or-end.ensures
    ∙ word_at c.args.line.now _
    (position_from_yields_List (λ b. eqb b space) _ _ _ c.position.ensures.ran (YieldsList-from_slice c.args.line.now (cc)) (λ x b q k. search (rules, tests)))

-- after the name was found the line is known to begin with it
headed : (c : In_ok-name) → c.unwrap_or-end.result ≡ length (first_word c.args.line.now)
    → Headed c.args.line.now c.unwrap_or-end.result c.in_ok-name.name c.in_ok-name.shape
headed c e = record { ends = e; names = sym c.in_ok-name.was ∙ c.name_of.ensures }

-- however many numbers there are, they stand in front, and the line is what they and the name make of it
joined : (c : Joined-end-line) → Headed c.args.line.now c.unwrap_or-end.result c.in_ok-name.name c.in_ok-name.shape
    → (c.if-end-line.count ≤ length c.if-end-line.numbers)
    × Told c.args.line.now c.args.numbers.now c.if-end-line.numbers
    (shaped c.in_ok-name.name c.in_ok-name.shape (take c.if-end-line.count c.if-end-line.numbers))
joined c h =
    elim c.if-end-line.branch [
      | then-end-line w ↦ rw (w.count-is, w.numbers-is) (omega arith, alone _ c.args.numbers.now _ _ _ h w.if-end-line.true)
      | else-end-line+in_ok-count w ↦
          let few = sym w.in_ok-count.was ∙ w.read_numbers.ensures.value in
          rw (w.count-is, w.numbers-is) (
            count_within _ c.args.numbers.now _ _ _ h w.if-end-line.false _ (whole_tail c.args.line.now (c.unwrap_or-end.result + 1)) w.read_numbers.ensures.numbers_after _ few,
            is_shaped _ c.args.numbers.now _ _ _ h w.if-end-line.false _ (whole_tail c.args.line.now (c.unwrap_or-end.result + 1)) w.read_numbers.ensures.numbers_after _ few,
          )
    ]

pub slice_bounds-name_of-end : goal.slice_bounds-name_of-end
slice_bounds-name_of-end c = word_length _ _ (ends (goal.at.slice_bounds-name_of-end c).After-unwrap_or-end)

pub returns-in_err-name : goal.returns-in_err-name
returns-in_err-name c =
    let t = unnamed _ c.args.numbers.now _ (ends (goal.at.returns-in_err-name c).After-unwrap_or-end) (sym c.in_err-name.was ∙ c.name_of.ensures) in
    record { value = rw c.from_residual.ensures t.0; numbers_after = t.1 }

pub returns-in_err-count : goal.returns-in_err-count
returns-in_err-count c =
    let at = goal.at.returns-in_err-count c in
    let t = not_all _ c.args.numbers.now _ _ _ (headed at.In_ok-name (ends at.After-unwrap_or-end)) c.if-end-line.false _ (whole_tail c.args.line.now (c.unwrap_or-end.result + 1)) c.read_numbers.ensures.numbers_after c.requires (sym c.in_err-count.was ∙ c.read_numbers.ensures.value) in
    record { value = rw c.from_residual-in_err-count.ensures t.0; numbers_after = t.1 }

pub slice_bounds-has_shape-end : goal.slice_bounds-has_shape-end
slice_bounds-has_shape-end c =
    let at = goal.at.slice_bounds-has_shape-end c in
    (joined at.Joined-end-line (headed at.In_ok-name (ends at.After-unwrap_or-end))).0

pub slice_bounds-has_shape-end-2 : goal.slice_bounds-has_shape-end-2
slice_bounds-has_shape-end-2 c =
    let at = goal.at.slice_bounds-has_shape-end-2 c in
    sym (length-take-le _ _ (joined at.Joined-end-line (headed at.In_ok-name (ends at.After-unwrap_or-end))).0)

pub returns : goal.returns
returns c =
    let at = goal.at.returns c in
    let j = joined at.Joined-end-line (headed at.In_ok-name (ends at.After-unwrap_or-end)) in
    record {
      value = is_made _ _ _ _ c.then_some.ensures c.has_shape.ensures (sym (length-take-le _ _ j.0)) ∙ j.1.0;
      numbers_after = j.1.1;
    }
