-- `settle_all` meets its contract.
use Rattle.std.proofs.Common.{rules, subst, arith, refl, sym, add-one, ap, ◌∙◌, ◌≡◌, ◌≤◌, ◌*◌, ℕ, List, length}
use lib.ListN.{length-replicate}
use Rattle.basics.proofs.Cases.{never}
use Rattle.ledger.specs.Lines.{words_in_line}
use Rattle.book.specs.declared.Book.{Book}
use Rattle.book.specs.Book.{Valid}
use Rattle.book.proofs.Ended.{close_fits, again_fits}
use Rattle.answers.specs.Text.{Tellable}
use Rattle.answers.specs.Told.{most_shown, closed_told, words_told}
use Rattle.answers.proofs.Tells.{nothing_tells, no_call_tells, numbers_tells, balance_tells, closed_tells, words_tells}
use Rattle.reading.specs.Calls.{most_listed}
use Rattle.settle.specs.declared.calls.Asked.{Asked}
use Rattle.settle.specs.declared.calls.Played.{Played}
use Rattle.settle.specs.Calls.{played_with, lent_to, after_done, after_cancel, after_deliver, after_call, words_after, close_asked, again_asked, month_asked, shown_as, balance_as, answer_by}
use Rattle.settle.specs.Turns.Gives.{opening, calling, showing, balancing, looking, targeting, ruling, passing, objecting}
use Rattle.settle.proofs.Turning.{standing, stopped, Given, given_by_lem, call_line, numbers_given, shown_given, turned, took_within}
use Rattle.settle.proofs.Flows.{fed_kept, fed_ready}
use Rattle.settle.proofs.settle_all.Goals as goal
use Rattle.settle.proofs.settle_all.Goals.{in-Call+in-Open, in-Call+in-Enter, in-Call+in-Withdraw, in-Call+in-Cancel, in-Call+in-Deliver, in-Call+in-Offer, in-Call+in-Rate, in-Call+in-Close, in-Call+in-Again, in-Call+in-Month, in-Call+in-Status, in-Call+in-Account, in-Call+in-Look, in-Call+in-Target, in-Call+in-Rules, in-Comment, in-NoCall}
use Rattle.settle.proofs.settle_all.Goals.{Joined-kind, else-loop-test, then-loop-test+then-not-goes_on}
use Rattle.settle.proofs.settle_all.Given.{Over}

-- The answer to a call that is lent words for lines can be written, if its lines stand within these words.
lines_tell : (a : Asked) (words after : List ℕ) (n count : ℕ) → a.lent ≤ most_listed → most_listed ≤ length words
    → words_in_line * count ≤ length (lent_to a) → length after ≡ length words
    → Tellable (closed_told n count a.lent a.fill) after
lines_tell a words after n count lends room fits same =
    closed_tells _ _ _ _ _ lends (omega (arith, lends, same, room)) (omega (arith, fits, length-replicate a.lent a.fill))

-- So can that to a close, and that to an again.
close_tells : (b : Book) (a : Asked) (words after : List ℕ) → Valid b → a.lent ≤ most_listed → most_listed ≤ length words
    → length after ≡ length words → Tellable (after_call b a (close_asked a)).answer after
unfolding answer_by
close_tells b a words after valid lends room same = lines_tell a words after _ _ lends room (close_fits b a.first (lent_to a) valid) same

again_tells : (b : Book) (a : Asked) (words after : List ℕ) → Valid b → a.lent ≤ most_listed → most_listed ≤ length words
    → length after ≡ length words → Tellable (after_call b a (again_asked a)).answer after
unfolding answer_by
again_tells b a words after valid lends room same = lines_tell a words after _ _ lends room (again_fits b (lent_to a) valid) same

-- The answer to a call that is told by numbers and the words that it was lent can be written.
words_tell : (a : Asked) (words after : List ℕ) (shown : List ℕ) → length shown ≤ most_shown → a.lent ≤ most_listed
    → most_listed ≤ length words → length after ≡ length words → Tellable (words_told shown a.lent) after
words_tell a words after shown few lends room same = words_tells shown _ _ few lends (omega (arith, lends, same, room))

month_tells : (b : Book) (a : Asked) (ns words after : List ℕ) → a.lent ≤ most_listed → most_listed ≤ length words
    → length after ≡ length words → Tellable (after_call b a (month_asked a ns)).answer after
unfolding answer_by
month_tells b a ns words after lends room same = words_tell a words after _ (omega arith) lends room same

-- what the line does, whichever call it is: one row an arm
given : (g : Over) (c : Joined-kind g) → Given c.loop.played.book c.ask-a.result c.ask-a.new.n c.loop.words c.match-kind.played c.match-kind.words
given g c =
    let b = c.loop.played.book in
    let a = c.ask-a.result in
    let valid = c.loop.invariant.stands.valid in
    let lends = c.ask-a.ensures.listed.lends in
    let room = c.loop.invariant.stands.room.lendable in
    let same = c.match-kind.auto.words in
    elim c.match-kind.branch [
      | in-Call+in-Open w ↦ given_by_lem _ _ _ (call_line w.in-Call.is w.in-Open.is) (w.played-is ∙ w.open-played.ensures.value) w.words-is (opening _ _)
          (rw w.open-played.ensures.value at w.open-played.ensures.valid) (numbers_tells _ _ (omega arith)) same
      | in-Call+in-Enter w ↦ numbers_given (λ (p : Played). p) w.in-Call.is w.in-Enter.is refl
          w.played-is w.enter-played.ensures.value w.enter-played.ensures.valid refl refl w.words-is
      | in-Call+in-Withdraw w ↦ numbers_given after_done w.in-Call.is w.in-Withdraw.is refl
          (w.played-is ∙ w.from-played.ensures) w.withdraw.ensures.value w.withdraw.ensures.valid refl refl w.words-is
      | in-Call+in-Cancel w ↦ numbers_given after_cancel w.in-Call.is w.in-Cancel.is refl
          (w.played-is ∙ w.from-played-in-Cancel.ensures) w.cancel.ensures.value w.cancel.ensures.valid refl refl w.words-is
      | in-Call+in-Deliver w ↦ numbers_given after_deliver w.in-Call.is w.in-Deliver.is refl
          (w.played-is ∙ w.from-played-in-Deliver.ensures) w.deliver.ensures.value w.deliver.ensures.valid refl refl w.words-is
      | in-Call+in-Offer w ↦ numbers_given after_done w.in-Call.is w.in-Offer.is refl
          (w.played-is ∙ w.from-played-in-Offer.ensures) w.offer.ensures.value w.offer.ensures.valid refl refl w.words-is
      | in-Call+in-Rate w ↦ numbers_given after_done w.in-Call.is w.in-Rate.is refl
          (w.played-is ∙ w.from-played-in-Rate.ensures) w.rate.ensures.value w.rate.ensures.valid refl refl w.words-is
      | in-Call+in-Close w ↦ let e = w.close-played.ensures in
          given_by_lem _ _ _ (call_line w.in-Call.is w.in-Close.is) (w.played-is ∙ e.value) (w.words-is ∙ e.words_after)
          (calling _ _ _ _ refl) (rw e.value at e.valid) (close_tells b a c.loop.words _ valid lends room same) same
      | in-Call+in-Again w ↦ let is : c.match-kind.played ≡ after_call b a (again_asked a) = cc in
          let left : c.match-kind.words ≡ words_after b a (again_asked a) c.loop.words = cc in
          let good : Valid c.match-kind.played.book = rw w.played-is (search rules) in
          given_by_lem _ _ _ (call_line w.in-Call.is w.in-Again.is) is left (calling _ _ _ _ refl)
          (subst (λ (x : Played). Valid x.book) is good) (again_tells b a c.loop.words _ valid lends room same) same
      | in-Call+in-Month w ↦ let e = w.month-played.ensures in
          given_by_lem _ _ _ (call_line w.in-Call.is w.in-Month.is) (w.played-is ∙ e.value) (w.words-is ∙ e.words_after)
          (calling _ _ _ _ refl) (rw e.value at e.valid) (month_tells b a c.ask-a.new.n c.loop.words _ lends room same) same
      | in-Call+in-Status w ↦ shown_given (call_line w.in-Call.is w.in-Status.is) (showing _ _)
          (w.played-is ∙ ap (played_with b) (w.shown-played.ensures ∙ ap shown_as w.status.ensures.value)) w.words-is valid
          (numbers_tells _ _ (omega arith))
      | in-Call+in-Account w ↦ shown_given (call_line w.in-Call.is w.in-Account.is) (balancing _ _)
          (w.played-is ∙ ap (played_with b) (w.balance-played.ensures ∙ ap balance_as w.account.ensures.value)) w.words-is valid
          (balance_tells _ _ _)
      | in-Call+in-Look w ↦ shown_given (call_line w.in-Call.is w.in-Look.is)
          (looking _ _ _ (record { looked = w.look.result; allowed = w.look.ensures.looks; told = refl }))
          (w.played-is ∙ ap (played_with b) w.looked-played.ensures) w.words-is valid (numbers_tells _ _ (omega arith))
      | in-Call+in-Target w ↦ given_by_lem _ _ _ (call_line w.in-Call.is w.in-Target.is) (w.played-is ∙ ap (played_with b) w.target_days-played.ensures.value)
          (w.words-is ∙ w.target_days-played.ensures.words_after) (targeting _ _) valid
          (words_tell a c.loop.words _ _ (omega arith) lends room same) same
      | in-Call+in-Rules w ↦ shown_given (call_line w.in-Call.is w.in-Rules.is) (ruling _ _) (w.played-is ∙ ap (played_with b) w.rules-played.ensures)
          w.words-is valid (numbers_tells _ _ (omega arith))
      | in-Comment w ↦ shown_given w.in-Comment.is passing (w.played-is ∙ ap (played_with b) w.nothing-played.ensures) w.words-is valid
          (nothing_tells _)
      | in-NoCall w ↦ shown_given w.in-NoCall.is objecting (w.played-is ∙ ap (played_with b) w.no_call-played.ensures) w.words-is valid
          (no_call_tells _)
    ]

pub loop-init : goal.loop-init
loop-init g c =
    let book = ap (λ (p : Played). p.book) c.before_all-played.ensures.value in
    let first = standing c.args.part.now c.args.line.now c.args.numbers.now c.args.words.now g.row.N
    (rw book at c.before_all-played.ensures.valid) c.requires in
    record {
      stands = rw (book, c.start-flow.ensures, c.clear.ensures) first;
      part_same = refl;
      line_same = refl;
      numbers_same = refl;
      words_same = refl;
    }

pub take-taken-requires : goal.take-taken-requires
take-taken-requires g c =
    let s = c.loop.invariant.stands in
    let on = fed_kept c.feed_on-fed.ensures s.read in
    let fit = fed_ready c.feed_on-fed.ensures s.room.writable s.ordered in
    (fit.ordered, on.within, omega (arith, on.held, s.held))

pub ask-a-requires : goal.ask-a-requires
ask-a-requires g c =
    let s = c.loop.invariant.stands in
    (omega (arith, (took_within c.take-taken.ensures).whole, c.take-taken.auto.line), s.room.numbered)

pub tell-flow-requires : goal.tell-flow-requires
tell-flow-requires g c =
    let s = c.loop.invariant.stands in (
      search rules,
      ((given g (goal.at.tell-flow-requires g c).Joined-kind).tells, (fed_ready c.feed_on-fed.ensures s.room.writable s.ordered).room),
    )

pub loop-preserved : goal.loop-preserved
loop-preserved g c =
    let i = c.loop.invariant in
    let s = i.stands in
    let does = given g (goal.at.loop-preserved g c).Joined-kind in
    let going = c.goes_on.ensures.0 c.if-not-goes_on.false in
    let fed = c.feed_on-fed.ensures in
    let line = c.take-taken.auto.line in
    let numbers = c.ask-a.auto.n in
    record {
      stands = rw (add-one c.loop.counter)
          (turned c.match-kind.played.answer going s fed (fed_kept fed s.read) c.take-taken.ensures
          c.ask-a.ensures.value c.ask-a.ensures.n_after does c.tell-flow.ensures line numbers refl);
      part_same = c.feed_on-fed.auto.part ∙ i.part_same;
      line_same = line ∙ i.line_same;
      numbers_same = numbers ∙ i.numbers_same;
      words_same = does.same ∙ i.words_same;
    }

pub returns : goal.returns
returns g c = record {
  upper_bound = c.tell_last.ensures.upper_bound;
  plays_in = record {
    book = c.loop.played.book;
    flow = c.loop.flow;
    answers = c.loop.out;
    plays = stopped (omega arith)
        (λ going. elim c.loop-test.branch [
          | else-loop-test w ↦ omega arith
          | then-loop-test+then-not-goes_on w ↦ absurd (never (sym w.if-not-goes_on.true ∙ w.goes_on.ensures.1 going))
        ])
        c.loop.invariant.stands;
    last = c.tell_last.ensures.out_after;
  };
}
