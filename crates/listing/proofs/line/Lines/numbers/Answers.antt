-- `numbers` meets its contract.
use Rattle.std.proofs.Common.{◌∙◌, arith}
use Rattle.listing.proofs.laws.LineLaws.{next_number_fits, number_more, line_feed_fits, numbers_end}
use Rattle.base.proofs.laws.PutsLaws.{puts_length}
use Rattle.listing.proofs.line.Lines.numbers.Goals as goal

-- there is room for the space and the number, and at last for the line feed
pub word-requires : goal.word-requires
word-requires c =
    let l = c.loop-number in
    let o = l.invariant.owing in
    omega (arith, o.size, next_number_fits c.args.numbers.now l.number-index o c.loop-number-test.true)

pub number-requires : goal.number-requires
number-requires c =
    let l = c.loop-number in
    let o = l.invariant.owing in
    let p = c.word.ensures.puts in
    omega (
      arith,
      o.size,
      puts_length p,
      p.next_is,
      next_number_fits c.args.numbers.now l.number-index o c.loop-number-test.true,
    )

pub loop-number-preserved : goal.loop-number-preserved
loop-number-preserved c =
    let l = c.loop-number in
    let w = c.word.ensures in
    let n = c.number.ensures in
    record {
      same = n.same ∙ w.same ∙ l.invariant.same;
      owing = number_more c.args.numbers.now l.number-index l.invariant.owing c.loop-number-test.true w.puts n.puts;
    }

pub word-requires-2 : goal.word-requires-2
word-requires-2 c =
    let l = c.loop-number in
    let o = l.invariant.owing in
    omega (arith, o.size, line_feed_fits c.args.numbers.now l.number-index o c.loop-number-test.false)

pub returns : goal.returns
returns c =
    let l = c.loop-number in
    let w = c.word-2.ensures in
    record {
      same = w.same ∙ l.invariant.same;
      puts = numbers_end c.args.numbers.now l.number-index l.invariant.owing c.loop-number-test.false w.puts;
    }
