use Rattle.std.proofs.Common.{◌≡◌, Err, sym, subst, rules}
use Rattle.parse.specs.Whole.{Agreeing}
use Rattle.parse.proofs.Agreeing.{agreeing}
use Rattle.parse.proofs.calls.emit.Goals as goal

pub returns-in_err-rest-clause-agrees : goal.returns-in_err-rest-clause-agrees
returns-in_err-rest-clause-agrees g c =
    let run = g.P.Parser.means c.args.parser.now (g.T.Input.cells c.args.input.now) (g.T.Input.place c.args.input.now) g.M.Manner.complete in
    let within = rw c.emit.ensures.store at (g.met.S.Sink.bounds c.emit.new.sink).within in
    let is : c.from_residual.result ≡ Err c.in_err-rest.field-0.0 = search rules in
    subst (λ r. Agreeing run (g.S.Sink.store c.args.sink.now).cap (g.S.Sink.list c.args.sink.now) r (g.S.Sink.list c.emit.new.sink)) (sym is)
    (agreeing run _ _ _ _ (g.met.S.Sink.bounds c.args.sink.now).few within c.in_err-rest.ensures.emits)

pub returns-clause-agrees : goal.returns-clause-agrees
returns-clause-agrees g c =
    let within = rw c.emit.ensures.store at (g.met.S.Sink.bounds c.emit.new.sink).within in
    agreeing _ _ _ _ _ (g.met.S.Sink.bounds c.args.sink.now).few within (rw (sym c.span.ensures) at c.in_ok-rest.ensures.emits)
