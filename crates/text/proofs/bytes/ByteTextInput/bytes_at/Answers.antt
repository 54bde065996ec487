use Rattle.std.proofs.Common.{◌≤◌, length, rules}
use Rattle.text.specs.Singles.{within-singles}
use Rattle.text.proofs.bytes.ByteTextInput.bytes_at.Goals as goal

pub slice_bounds-result-end : goal.slice_bounds-result-end
slice_bounds-result-end c =
    let h : c.args.span.end ≤ length c.args.self.now.bytes.now = within-singles _ _ _ c.requires in search rules
