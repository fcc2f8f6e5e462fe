use Rattle.std.proofs.Common.{sym, ◌∙◌}
use Rattle.ab_norm.proofs.Completed.{included_old, included_new}
use Rattle.ab_norm.proofs.permutation_tables.include.Goals as goal

pub returns-in_ok-push : goal.returns-in_ok-push
returns-in_ok-push c = λ types ok ha permutes.
    included_new types ok c.args.a c.args.table.now.items c.push.new.self.items ha permutes
    (λ there. let e = sym c.if-not-stands.true ∙ c.stands.ensures.1 (rw c.deref.ensures.value there) in absurd (cc)) c.in_ok-push.ensures.items

pub returns-else-not-stands : goal.returns-else-not-stands
returns-else-not-stands c = λ types ok ha permutes.
    included_old types ok c.args.a c.args.table.now.items permutes (rw (← c.deref.ensures.value) (c.stands.ensures.0 c.if-not-stands.false))
