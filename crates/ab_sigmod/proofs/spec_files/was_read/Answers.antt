use Rattle.std.proofs.Common.{◌≡◌, List, Contains, map, false, true, refl, sym, subst, rules}
use Rattle.ab_sigmod.specs.declared.spec.SpecFile.{SpecFile}
use Rattle.ab_sigmod.specs.FileOrder.{Read}
use Rattle.ab_sigmod.specs.Outcomes.{read_of}
use Rattle.ab_sigmod.specs.Readings.{SomeName}
use Rattle.ab_sigmod.proofs.Chains.{contains_at, all_of}
use Rattle.ab_sigmod.proofs.spec_files.was_read.Goals as goal

pub returns-then-eq : goal.returns-then-eq
returns-then-eq c =
    let o : SpecFile = c.file-item.result in
    let b : o.name ≡ c.args.name.now = search rules in
    let there = subst (λ (p : SpecFile). Contains (map read_of c.args.files.now) (read_of p)) (sym c.file-item.is) (contains_at read_of c.args.files.now c.loop-file.file-index _ c.loop-file-test.true) in
    (λ _. (read_of o, there, b), λ _. refl)

pub returns : goal.returns
returns c = (λ e. let bad : false ≡ true = e in absurd (cc), λ h. absurd (c.loop-file.invariant (subst (λ (rs : List Read). SomeName rs c.args.name.now) (all_of read_of c.args.files.now c.loop-file.file-index c.loop-file-test.false) h)))
