use Rattle.std.proofs.Common.{◌≡◌, ◌<◌, ◌-◌, take, drop, sym, ap, ◌∙◌, rules}
use Rattle.text.specs.Cells.{singles}
use Rattle.text.specs.Search.{until, is}
use Rattle.utf8.proofs.Starts.{cut-scan, well_cut}
use Rattle.utf8.proofs.Bytewise.{until_ascii}
use Rattle.utf8.proofs.texts.Utf8TextInput.position_of.Goals as goal

pub returns-in-Ok-0-to-127 : goal.returns-in-Ok-0-to-127
returns-in-Ok-0-to-127 c =
    let text = c.args.self.now in
    let part = take (text.span.end - text.span.start) (drop text.span.start text.bytes.now) in
    let same : c.in-Ok-0-to-127.byte ≡ c.args.code = search rules in
    let low : c.args.code < 128 = search rules in
    c.find_byte.ensures.value
    ∙ ap (λ n. until (is n) (singles c.bytes.result.now)) same
    ∙ ap (λ l. until (is c.args.code) (singles l)) c.bytes.ensures
    ∙ until_ascii c.args.code part low (well_cut text.bytes.now text.span.start text.span.end text.well text.within)
    ∙ ap (until (is c.args.code)) (sym (cut-scan text.bytes.now text.span.start text.span.end text.well text.within))
