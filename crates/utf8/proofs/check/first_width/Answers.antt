use Rattle.std.proofs.Common.{◌≡◌, ◌<◌, ◌∷◌, sym, ap, ◌∙◌, rules}
use Rattle.std.specs.Option.{option_map}
use Rattle.text.specs.Cells.{Cell}
use Rattle.utf8.specs.Octets.{char}
use Rattle.utf8.proofs.Steps.{char_ascii}
use Rattle.utf8.proofs.Table.{row_sound}
use Rattle.utf8.proofs.check.first_width.Goals as goal

pub returns-then-is_ascii : goal.returns-then-is_ascii
returns-then-is_ascii c =
    let low : c.in_ok-lead.lead.now < 0x80 = search rules in
    let bytes : c.args.bytes.now ≡ c.in_ok-lead.lead.now ∷ c.in_ok-lead.tails.now = search rules in
    sym (ap (λ l. option_map (λ (c : Cell). c.1) (char l)) bytes ∙ ap (option_map (λ (c : Cell). c.1)) (char_ascii c.in_ok-lead.lead.now c.in_ok-lead.tails.now low))

pub follows-requires : goal.follows-requires
follows-requires c = (row_sound _ c.in_ok-row.row.now (sym c.in_ok-row.ensures)).few
