use Rattle.ab_logic.specs.declared.world.World.{World}
use Rattle.std.proofs.Common.{ap}
use Rattle.ab_kernel.specs.Layout.{history_of}
use Rattle.ab_kernel.proofs.Standing.{closed_exactly}
use Rattle.ab_kernel.proofs.proof.Proof.is_closed.Goals as goal

pub returns : goal.returns
returns c =
    let closed = λ (w : World).
    closed_exactly w _ _ _ (history_of w c.args.self.now) _ c.is_empty.result (c.self.invariant.stands w) (ap (history_of w) c.self.view_is) c.self.inside.open.ok.0 c.is_empty.ensures in
    record {
      closed = closed;
      derivation = λ w F yes proof sentence root. record { sentence = sentence; valid = proof.valid; closed = (closed w).0 yes; derives = root };
      whole = λ w F yes proof sentence root none. record { tree = record { sentence = sentence; valid = proof.valid; closed = (closed w).0 yes; derives = root }; whole = none };
    }
