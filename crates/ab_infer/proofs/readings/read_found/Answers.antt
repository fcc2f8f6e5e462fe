use Rattle.std.proofs.Common.{length, sym, ap, ◌∙◌, subst}
use Rattle.std.specs.List.{All}
use Rattle.ab_inference.specs.Programs.{OpTyped}
use Rattle.ab_inference.specs.Verdicts.{types_found}
use Rattle.ab_infer.specs.NormalTerms.{AreFreeHeads, BecomeHeads}
use Rattle.ab_infer.specs.Outcomes.{nominal_of}
use Rattle.ab_infer.proofs.Outcomes.{whole_fits, normal_of, free_heads, become_heads}
use Rattle.ab_infer.proofs.readings.read_found.Goals as goal

pub build-requires-clause-frees : goal.build-requires-clause-frees
build-requires-clause-frees g c =
    let t = c.args.types.now in
    let e = c.in_ok-frees.ensures in
    subst (AreFreeHeads t c.args.store.now.cells c.args.base c.args.found.now) (sym c.deref.ensures.value)
    (free_heads t c.args.store.now.cells c.args.base c.args.found.now c.args.numbers.now c.in_ok-frees.frees.items e.len e.heads c.requires.found)

pub build-requires-clause-typed : goal.build-requires-clause-typed
build-requires-clause-typed g c =
    subst (λ n. All (OpTyped c.args.types.now c.args.base n) c.args.steps.now) (sym (ap length c.deref.ensures.value ∙ c.in_ok-frees.ensures.len)) c.requires.typed

pub returns-in-Some-clause-outcome : goal.returns-in-Some-clause-outcome
returns-in-Some-clause-outcome g c = λ names k A runs fit numbers one.
    let t = c.args.types.now in
    let cells = c.args.store.now.cells in
    let v = types_found t c.args.found.now in
    let e = c.in_ok-frees.ensures in
    let becomes : BecomeHeads t cells c.args.base v nominal_of names c.deref.result.now =
    subst (λ hs. BecomeHeads t cells c.args.base v nominal_of names hs) (sym c.deref.ensures.value)
    (become_heads t cells c.args.base c.args.found.now c.args.numbers.now c.in_ok-frees.frees.items e.len e.heads names numbers) in
    let m = c.in_ok-term.ensures.built nominal_of names k runs fit becomes in
    normal_of t c.build.new.store c.args.base v k A c.in-Some.term (whole_fits t cells names c.args.steps.now k c.requires.fit runs) one (rw c.in-Some.is at m)

pub returns-clause-outcome : goal.returns-clause-outcome
returns-clause-outcome g c = λ names k A runs fit numbers one reading.
    let t = c.args.types.now in
    let cells = c.args.store.now.cells in
    let v = types_found t c.args.found.now in
    let e = c.in_ok-frees.ensures in
    let becomes : BecomeHeads t cells c.args.base v nominal_of names c.deref.result.now =
    subst (λ hs. BecomeHeads t cells c.args.base v nominal_of names hs) (sym c.deref.ensures.value)
    (become_heads t cells c.args.base c.args.found.now c.args.numbers.now c.in_ok-frees.frees.items e.len e.heads names numbers) in
    let m = c.in_ok-term.ensures.built nominal_of names k runs fit becomes in
    rw c.in-None.is at m
