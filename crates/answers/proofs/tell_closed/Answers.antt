-- After the numbers there is room for the lines, and after these for how many words are kept.
use Rattle.std.proofs.Common.{◌≡◌, ℕ, List, ◌-◌, ◌*◌, ◌∷◌, ◌++◌, [], take, drop, length, ◌∙◌, ap, append_assoc, arith, rules}
use Rattle.std.proofs.lemmas.List.{take_rest}
use Rattle.std.proofs.lemmas.Grind.{common_steps}
use Rattle.writing.proofs.Writing.{line_most}
use Rattle.writing.specs.Answers.{answer_of}
use Rattle.answers.specs.Text.{lines_text, kept_of, kept_text, closed_text}
use Rattle.answers.proofs.Lengths.{lines_most}
use Rattle.answers.proofs.tell_closed.Goals as goal

pub tell_lines-requires : goal.tell_lines-requires
tell_lines-requires g c =
    let r = c.args.reported in
    (search rules, (omega (arith, c.requires), grind (arith, common_steps, line_most (r.answer ∷ r.lines ∷ []))))

pub tell_kept-requires : goal.tell_kept-requires
tell_kept-requires g c =
    let r = c.args.reported in (
      search rules,
      grind (arith, common_steps, line_most (r.answer ∷ r.lines ∷ []), lines_most c.args.words.now r.lines),
    )

pub returns : goal.returns
unfolding closed_text
returns g c =
    let r = c.args.reported in
    let words = c.args.words.now in
    let head = answer_of (r.answer ∷ r.lines ∷ []) in
    let lines = lines_text words r.lines in
    let kept = kept_text (kept_of r.fill (drop (6 * r.lines) (take r.lent words))) in
    let rest : List ℕ = drop (6 * r.lines) (take r.lent words) in
    let all : take (length (take r.lent words) - 6 * r.lines) rest ≡ rest = take_rest (take r.lent words) (6 * r.lines) in
    let told = rw (c.kept_of.ensures, all) at c.tell_kept.ensures in
    told
    ∙ ap (λ (l : List ℕ). l ++ kept) (c.tell_lines.ensures ∙ ap (λ (l : List ℕ). l ++ lines) c.answer.ensures)
    ∙ ap (λ (l : List ℕ). l ++ kept) (append_assoc c.args.out.now head lines)
    ∙ append_assoc c.args.out.now (head ++ lines) kept
