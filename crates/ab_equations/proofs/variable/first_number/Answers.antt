use Rattle.std.proofs.Common.{◌≡◌, ℕ, List, codes, sym, ◌∙◌}
use Rattle.std.proofs.lemmas.Slice.Eq.{bytes_eq-Decides}
use Rattle.ab_free_names.proofs.Free.{from_one, behind_n}
use Rattle.ab_equations.proofs.variable.first_number.Goals as goal

pub returns-then-eq-clause-first : goal.returns-then-eq-clause-first
returns-then-eq-clause-first c = let is : c.args.stem.now ≡ codes "n" = sym c.as_str.ensures ∙ (bytes_eq-Decides c.as_str.result.now (codes "n")).0 (sym c.eq.ensures ∙ c.if-eq.true) in behind_n c.args.stem.now is

pub returns-else-eq-clause-first : goal.returns-else-eq-clause-first
returns-else-eq-clause-first c = from_one c.args.stem.now c.requires (λ e. let yes = (bytes_eq-Decides c.as_str.result.now (codes "n")).1 (c.as_str.ensures ∙ e) in let no = c.if-eq.false in cc (c.eq.ensures, yes, no))
