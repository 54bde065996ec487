use Rattle.std.proofs.Common.{◌≤◌, get_or, length, ⊎_elim, arith, rules}
use Rattle.utf8.proofs.Decode.{starts, some_tails, two_tails, tails_0, tails_1, tails_2, tails_3, code_1, code_2, code_3, code_4}
use Rattle.utf8.proofs.texts.split_char.Goals as goal

pub returns-then-lead-lt128-clause-point : goal.returns-then-lead-lt128-clause-point
returns-then-lead-lt128-clause-point c =
    let bs = c.args.bytes.now in
    code_1 bs (starts bs c.requires) (tails_0 (get_or bs 0 0) c.if-lead-lt128.true)

pub bounds-bytes-1 : goal.bounds-bytes-1
bounds-bytes-1 c =
    let f = (starts c.args.bytes.now c.requires).fits in
    omega (arith, some_tails (get_or c.args.bytes.now 0 0) c.if-lead-lt128.false)

pub overflow_sub-second : goal.overflow_sub-second
overflow_sub-second c =
    let n = some_tails (get_or c.args.bytes.now 0 0) c.if-lead-lt128.false in
    (starts c.args.bytes.now c.requires).tails 1 (omega arith) (omega arith)

pub overflow_sub-result : goal.overflow_sub-result
overflow_sub-result c = ⊎_elim (λ h. absurd (omega (arith, h, c.if-lead-lt128.false))) (λ h. h) (starts c.args.bytes.now c.requires).lead

pub slice_bounds-result-count-then-lead-lt224 : goal.slice_bounds-result-count-then-lead-lt224
slice_bounds-result-count-then-lead-lt224 c =
    let f = (starts c.args.bytes.now c.requires).fits in
    omega (arith, some_tails (get_or c.args.bytes.now 0 0) c.if-lead-lt128.false)

pub slice_bounds-result-start-then-lead-lt224 : goal.slice_bounds-result-start-then-lead-lt224
slice_bounds-result-start-then-lead-lt224 c =
    let bs = c.args.bytes.now in
    let f = (starts bs c.requires).fits in
    let h : 2 ≤ length bs = omega (arith, some_tails (get_or bs 0 0) c.if-lead-lt128.false) in search rules

pub returns-then-lead-lt224-clause-point : goal.returns-then-lead-lt224-clause-point
returns-then-lead-lt224-clause-point c =
    let bs = c.args.bytes.now in
    code_2 bs (starts bs c.requires) (tails_1 (get_or bs 0 0) c.if-lead-lt128.false c.if-lead-lt224.true)

pub bounds-bytes-2 : goal.bounds-bytes-2
bounds-bytes-2 c =
    let f = (starts c.args.bytes.now c.requires).fits in
    omega (arith, two_tails (get_or c.args.bytes.now 0 0) c.if-lead-lt224.false)

pub overflow_sub-third : goal.overflow_sub-third
overflow_sub-third c =
    let n = two_tails (get_or c.args.bytes.now 0 0) c.if-lead-lt224.false in
    (starts c.args.bytes.now c.requires).tails 2 (omega arith) (omega arith)

pub slice_bounds-result-count-then-lead-lt240 : goal.slice_bounds-result-count-then-lead-lt240
slice_bounds-result-count-then-lead-lt240 c =
    let f = (starts c.args.bytes.now c.requires).fits in
    omega (arith, two_tails (get_or c.args.bytes.now 0 0) c.if-lead-lt224.false)

pub slice_bounds-result-start-then-lead-lt240 : goal.slice_bounds-result-start-then-lead-lt240
slice_bounds-result-start-then-lead-lt240 c =
    let bs = c.args.bytes.now in
    let f = (starts bs c.requires).fits in
    let h : 3 ≤ length bs = omega (arith, two_tails (get_or bs 0 0) c.if-lead-lt224.false) in search rules

pub returns-then-lead-lt240-clause-point : goal.returns-then-lead-lt240-clause-point
returns-then-lead-lt240-clause-point c =
    let bs = c.args.bytes.now in
    code_3 bs (starts bs c.requires) (tails_2 (get_or bs 0 0) c.if-lead-lt224.false c.if-lead-lt240.true)

pub bounds-bytes-3 : goal.bounds-bytes-3
bounds-bytes-3 c =
    let f = (starts c.args.bytes.now c.requires).fits in
    omega (arith, tails_3 (get_or c.args.bytes.now 0 0) c.if-lead-lt240.false)

pub overflow_sub-fourth : goal.overflow_sub-fourth
overflow_sub-fourth c =
    let n = tails_3 (get_or c.args.bytes.now 0 0) c.if-lead-lt240.false in
    (starts c.args.bytes.now c.requires).tails 3 (omega arith) (omega arith)

pub slice_bounds-result-count-2 : goal.slice_bounds-result-count-2
slice_bounds-result-count-2 c =
    let f = (starts c.args.bytes.now c.requires).fits in
    omega (arith, tails_3 (get_or c.args.bytes.now 0 0) c.if-lead-lt240.false)

pub slice_bounds-result-start-2 : goal.slice_bounds-result-start-2
slice_bounds-result-start-2 c =
    let bs = c.args.bytes.now in
    let f = (starts bs c.requires).fits in
    let h : 4 ≤ length bs = omega (arith, tails_3 (get_or bs 0 0) c.if-lead-lt240.false) in search rules

pub returns-clause-point : goal.returns-clause-point
returns-clause-point c =
    let bs = c.args.bytes.now in
    code_4 bs (starts bs c.requires) (tails_3 (get_or bs 0 0) c.if-lead-lt240.false)
