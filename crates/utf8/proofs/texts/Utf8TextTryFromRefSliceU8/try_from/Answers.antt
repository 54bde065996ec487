use Rattle.std.proofs.Common.{sym}
use Rattle.utf8.proofs.Rules.{well_octets}
use Rattle.utf8.proofs.texts.Utf8TextTryFromRefSliceU8.try_from.Goals as goal

pub returns : goal.returns
returns c =
    let made = c.over_all.ensures in
    (sym c.in_ok-check.ensures.value, (made.bytes, made.span, made.all, well_octets _ c.over_all.result.well))
