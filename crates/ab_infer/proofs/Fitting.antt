-- A reading is well-typed.
use Rattle.std.proofs.Common.{List, ◌∷◌, refl}
use Rattle.ab_term.specs.Types.{Ty}
use Rattle.ab_term.specs.Typing.{Signature}
use Rattle.ab_term.specs.Normal.{FitsType, fits_atom, fits_abstraction, fits_application}
use Rattle.ab_grammar.specs.declared.Quant.TheVariants.{Forall, Exists, Nabla}
use Rattle.ab_meaning.specs.ResolvedNames.{Name, Resolved, Binding, quantified, pi, binding_type}
use Rattle.ab_meaning.specs.Readings.{Raw, Making, Reads, reads_bound, reads_known, reads_free, reads_apply, reads_behind, reads_abs, reads_equal, reads_bind, bound_term}
use Rattle.ab_infer.specs.Heads.{HeadsFit, MakesTyped}

module _ (sg : Signature) (made : Making) (types : Name → Ty) (good : MakesTyped sg made) where
  bound_fits : {G : List Ty} (q : Binding) {x : Name} {A : Ty} {t : Raw} → FitsType sg (A ∷ G) t (binding_type q) → FitsType sg G (bound_term q x A t) (binding_type q)
  bound_fits (quantified Forall) f = fits_application (fits_atom refl) (fits_abstraction f)
  bound_fits (quantified Exists) f = fits_application (fits_atom refl) (fits_abstraction f)
  bound_fits (quantified Nabla) f = fits_application (fits_atom refl) (fits_abstraction f)
  bound_fits pi f = fits_application (fits_atom refl) (fits_abstraction f)

  pub reading_fits : {G : List Ty} {e : Resolved} {t : Raw} {A : Ty} {As : List Ty} → HeadsFit sg e → Reads made types G e t A As → FitsType sg G t A
  reading_fits h (reads_bound at) = fits_atom at
  reading_fits {G = G} h reads_known = fits_atom (h G)
  reading_fits {G = G} h (reads_free {x = x} free) = fits_atom (good x (types x) G)
  reading_fits h (reads_apply r s) = fits_application (reading_fits h.0 r) (reading_fits h.1 s)
  reading_fits h (reads_behind r s) = fits_application (reading_fits h.1 s) (reading_fits h.0 r)
  reading_fits h (reads_abs free r) = fits_abstraction (reading_fits h r)
  reading_fits h (reads_equal r s) = fits_application (fits_application (fits_atom refl) (reading_fits h.0 r)) (reading_fits h.1 s)
  reading_fits h (reads_bind {q = q} free keeps r) = bound_fits q (reading_fits h r)
