-- `ask` meets its contract.
use mathlib.Core.Path.{◌≡◌, refl, sym, ◌∙◌}
use native.Mathlib.Omega.{arith}
use lib.Seq.{length-take-le}
use Rattle.lines.specs.Input.{size}
use Rattle.reading.proofs.Arguments.{call_arguments}
use Rattle.settle.specs.Asked.{asked_of}
use Rattle.settle.proofs.Asking.{nothing_listed, call_listed, noted_line, asked_line, nothing_asked_lem, asked_not}
use Rattle.settle.proofs.calls.ask.Goals as goal

pub returns-in_default : goal.returns-in_default
returns-in_default c =
    let no = asked_not c.args.taken c.args.line.now c.args.n.now c.in_default.is in
    record {
      value = c.asks_nothing.ensures ∙ no.0;
      n_after = no.1;
      listed = rw c.asks_nothing.ensures (nothing_listed _ _);
    }

pub slice_bounds-read_line-end : goal.slice_bounds-read_line-end
slice_bounds-read_line-end c =
    let size : size c.args.taken ≡ c.in-Some.size = rw c.in-Some.is refl in
    sym (length-take-le _ _ (omega (arith, size, c.requires.0)))

pub asks_call-requires : goal.asks_call-requires
asks_call-requires c =
    let p = c.requires in
    let a = call_arguments _ _ _ _ _ _ p.1 c.in-Call.is c.read_line.ensures in
    record {
      most_numbers_in_bounds = omega (arith, p.1, c.read_line.auto.numbers);
      n_value = (a.1, a.2);
    }

pub returns-in-Call : goal.returns-in-Call
unfolding asked_of
returns-in-Call c =
    let u = c.read_line.ensures in
    let told = c.in-Call.is in
    let a = call_arguments _ _ _ _ _ _ c.requires.1 told u in record {
      value = c.asks_call.ensures ∙ asked_line c.args.taken _ c.args.line.now c.args.n.now c.read_line.new.numbers _ told c.in-Some.is u;
      n_after = noted_line c.args.taken _ c.args.line.now c.args.n.now c.in-Some.is u;
      listed = rw c.asks_call.ensures (call_listed _ _ _ _ a.2 a.1);
    }

pub returns-in-Comment : goal.returns-in-Comment
unfolding asked_of
returns-in-Comment c =
    let is = nothing_asked_lem c.args.taken _ c.args.line.now c.args.n.now c.read_line.new.numbers _ refl c.asks_nothing-in-Comment.ensures
    c.in-Comment.is c.in-Some.is c.read_line.ensures in
    record { value = is.0; n_after = is.1.0; listed = is.1.1 }

pub returns-in-NoCall : goal.returns-in-NoCall
unfolding asked_of
returns-in-NoCall c =
    let is = nothing_asked_lem c.args.taken _ c.args.line.now c.args.n.now c.read_line.new.numbers _ refl c.asks_nothing-in-NoCall.ensures
    c.in-NoCall.is c.in-Some.is c.read_line.ensures in
    record { value = is.0; n_after = is.1.0; listed = is.1.1 }
