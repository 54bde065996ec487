use Rattle.std.proofs.Common.{Err, sym, ap, ◌∙◌}
use Rattle.std.specs.Prelude.{slice_range}
use Rattle.text.specs.Need.{needed}
use Rattle.text.specs.Search.{sliced}
use Rattle.text.specs.Singles.{cut-singles, length_part}
use Rattle.text.proofs.Walking.{sliced_enough, sliced_short}
use Rattle.text.proofs.bytes.ByteTextInput.slice_index.Goals as goal

pub returns-then-count-len : goal.returns-then-count-len
returns-then-count-len c =
    let bs = c.args.self.now.bytes.now in
    let s = c.args.self.now.span in
    let same = length_part bs s c.args.self.now.within in
    sym (ap (sliced needed c.args.count) (cut-singles bs s.start s.end) ∙ sliced_enough needed c.args.count c.len-len.result (slice_range bs s.start s.end) (same ∙ sym c.len-len.ensures) c.if-count-len.true)

pub returns-else-count-len : goal.returns-else-count-len
returns-else-count-len c =
    let bs = c.args.self.now.bytes.now in
    let s = c.args.self.now.span in
    let same = length_part bs s c.args.self.now.within in
    ap Err c.new.ensures ∙ sym (ap (sliced needed c.args.count) (cut-singles bs s.start s.end) ∙ sliced_short needed c.args.count c.len-len.result (slice_range bs s.start s.end) (same ∙ sym c.len-len.ensures) c.if-count-len.false)
