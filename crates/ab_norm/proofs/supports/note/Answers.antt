use Rattle.std.proofs.Common.{sym, subst}
use Rattle.std.specs.List.{All}
use Rattle.std.proofs.lemmas.Map.Views.{All-insert_key}
use Rattle.ab_term.specs.Names.{support_of_head}
use Rattle.ab_store.specs.Trees.{head_in}
use Rattle.ab_store.specs.Naming.{HeadIsTyped}
use Rattle.ab_norm.specs.Nominals.{nominal_of, HoldsNominal}
use Rattle.ab_norm.specs.GatheredNames.{Gathers}
use Rattle.ab_norm.proofs.Gathered.{gains, nominal_cmp, equal_are_one}
use Rattle.ab_norm.proofs.supports.note.Goals as goal

pub returns-in_ok-insert-clause-gathers : goal.returns-in_ok-insert-clause-gathers
returns-in_ok-insert-clause-gathers c = λ types cells.
    subst (λ h. Gathers types c.args.found.now.keys c.insert.new.self.keys (support_of_head (head_in types cells h))) (sym c.in-Nominal.is)
    (gains nominal_cmp equal_are_one (nominal_of types) c.args.found.now.keys c.insert.new.self.keys (record { number = c.in-Nominal.number; ty = c.in-Nominal.ty }) c.in_ok-insert.ensures.keys)

pub returns-in_ok-insert-clause-held : goal.returns-in_ok-insert-clause-held
returns-in_ok-insert-clause-held c = λ types typed held.
    subst (All (HoldsNominal types)) (sym c.in_ok-insert.ensures.keys)
    (All-insert_key nominal_cmp (record { number = c.in-Nominal.number; ty = c.in-Nominal.ty }) (HoldsNominal types) c.args.found.now.keys held (subst (HeadIsTyped types) c.in-Nominal.is typed))
