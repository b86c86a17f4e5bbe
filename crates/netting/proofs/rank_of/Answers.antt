-- `rank_of` meets its contract.
use Rattle.std.proofs.Common.{rules, arith, tests, ℕ, ◌∙◌, sym}
use Rattle.std.proofs.lemmas.Iterator.{YieldsList-from_range}
use Rattle.std.proofs.lemmas.Iterator.Consumers.{YieldsList-from_filter, count_from_yields_List}
use Rattle.std.proofs.lemmas.List.Sums.{length-filter}
use Rattle.std.specs.List.{range_with_len}
use Rattle.netting.specs.Accounts.{member_count}
use Rattle.netting.specs.Portions.{remainder_of}
use Rattle.netting.specs.Shares.{comes_before, rank}
use Rattle.netting.proofs.Library.{count_is}
use Rattle.netting.proofs.rank_of.Goals as goal

pub returns : goal.returns
unfolding rank
returns c =
    let a = c.args in
    let before = λ (k : ℕ). comes_before (remainder_of a.parts.now) k a.m in
    count_from_yields_List c.filter-ahead.result _ c.count.ensures.ran
    (YieldsList-from_filter _ before (YieldsList-from_range 0 member_count member_count c.filter-ahead.ensures.source (omega arith)) c.filter-ahead.ensures.closure (λ x r q k. search (rules, tests)))
    ∙ length-filter before (range_with_len 0 member_count) ∙ sym (count_is member_count before)
