use Rattle.std.proofs.Common.{◌≤◌, length, arith, rules}
use Rattle.utf8.specs.Octets.{scan}
use Rattle.utf8.proofs.Starts.{within_end}
use Rattle.utf8.proofs.texts.Utf8TextInput.bytes_at.Goals as goal

pub slice_bounds-result-end : goal.slice_bounds-result-end
slice_bounds-result-end c =
    let text = c.args.self.now in
    let h : c.args.span.end ≤ length text.bytes.now = omega (arith, within_end (scan text.bytes.now) c.args.span.start c.args.span.end c.requires, text.well) in search rules
