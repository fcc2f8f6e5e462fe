use Rattle.std.proofs.Common.{◌≡◌, ◌≢◌, List, Contains, ap, sym, ◌∙◌, subst, rules}
use Rattle.ab_sigmod.specs.declared.progress.OpenFile.{OpenFile}
use Rattle.ab_sigmod.specs.FileNames.{File}
use Rattle.ab_sigmod.specs.Readings.{file_of}
use Rattle.ab_sigmod.proofs.Chains.{found, not_yet, all_of}
use Rattle.ab_sigmod.proofs.spec_files.place_in.Goals as goal
use Rattle.ab_sigmod.proofs.spec_files.place_in.Goals.{else-eq-via-then-eq+else-eq-2, else-eq-via-else-eq}

pub returns-then-eq-2 : goal.returns-then-eq-2
returns-then-eq-2 c =
    let f : File = record { base = c.args.base.now; kind = c.args.kind } in
    let o : OpenFile = c.index-chain-place.result in
    let k : o.kind ≡ c.args.kind = search rules in
    let b : o.base ≡ c.args.base.now = search rules in
    let same : file_of o ≡ f = cc in
    found file_of c.args.chain.now c.loop-place.place f _ c.loop-place-test.true (ap file_of (sym c.index-chain-place.is) ∙ same)

pub loop-place-preserved : goal.loop-place-preserved
loop-place-preserved c =
    let f : File = record { base = c.args.base.now; kind = c.args.kind } in
    let o : OpenFile = c.index-chain-place.result in
    not_yet file_of c.args.chain.now c.loop-place.place f _ c.loop-place-test.true (λ e.
    let same : file_of o ≡ f = ap file_of c.index-chain-place.is ∙ e in
    elim c.else-eq.branch [
      | else-eq-via-then-eq+else-eq-2 w ↦
          let other : o.base ≢ c.args.base.now = search rules in
          other (ap (λ (g : File). g.base) same)
      | else-eq-via-else-eq w ↦
          let other : o.kind ≢ c.args.kind = search rules in
          other (ap (λ (g : File). g.kind) same)
    ]) c.loop-place.invariant

pub returns : goal.returns
returns c = λ h. c.loop-place.invariant (subst (λ (fs : List File). Contains fs (record { base = c.args.base.now; kind = c.args.kind })) (all_of file_of c.args.chain.now c.loop-place.place c.loop-place-test.false) h)
