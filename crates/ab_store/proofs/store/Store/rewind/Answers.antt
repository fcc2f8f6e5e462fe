use Rattle.std.proofs.Common.{◌≡◌, arith, length, take, ap, ◌∙◌}
use Rattle.ab_store.proofs.Marking.{rewound_reads}
use Rattle.ab_store.proofs.store.Store.rewind.Goals as goal

pub returns-clause-reads : goal.returns-clause-reads
returns-clause-reads g c =
    let left : length c.loop-self.self.bindings ≡ c.args.mark.now.bindings = omega (arith, c.loop-self.invariant.least, c.loop-self-test.false, c.count_bindings.ensures) in
    rewound_reads c.args.self.now c.loop-self.self c.args.mark.now c.loop-self.invariant.nodes c.loop-self.invariant.cells
    (c.loop-self.invariant.front ∙ ap (λ n. take n c.args.self.now.bindings) left) c.requires
