-- What an expression means in a goal fits the goal, and is a formula at the type of formulas.
use Rattle.std.specs.Prelude.{◌≡◌, [], map, Contains}
use Rattle.std.proofs.Common.{refl, sym, subst}
use Rattle.ab_term.specs.Types.{Ty, prop}
use Rattle.ab_term.specs.Typing.{HasType}
use Rattle.ab_term.specs.Names.{HasOneTypeEach}
use Rattle.ab_term.specs.Variables.{variables}
use Rattle.ab_term.specs.Normal.{FitsType}
use Rattle.ab_term.proofs.Lists.{All-from_contains}
use Rattle.ab_term.specs.Terms.{Read}
use Rattle.ab_grammar.specs.Tree.{Tree}
use Rattle.ab_meaning.specs.ResolvedNames.{Name}
use Rattle.ab_meaning.specs.Types.{PropFree}
use Rattle.ab_meaning.specs.Readings.{Reads}
use Rattle.ab_infer.specs.Heads.{AreHeads, AreRawHeads, IsOrdinary}
use Rattle.ab_infer.specs.Outcomes.{nominal_of}
use Rattle.ab_infer.proofs.Fitting.{reading_fits}
use Rattle.ab_infer.proofs.CanonicalFormulas.{stands}
use Rattle.ab_infer.proofs.HeadsKept.{heads_kept}
use Rattle.ab_infer.proofs.Normalising.{normal_form_typed}
use Rattle.ab_infer.proofs.ReadHeads.{ordinary_binders}
use Rattle.ab_formulas.specs.Declarations.{Declarations, signature_in}
use Rattle.ab_formulas.specs.Formulas.{IsFormula}
use Rattle.ab_formulas.specs.Sequents.{Variable, Sequent, Fits, goal_names, in_terms}
use Rattle.ab_meaning.specs.Terms.{made, Means}
use Rattle.ab_infer.specs.Lists.{HasLists}
use Rattle.ab_infer.proofs.MeaningNames.{NamesAre}
use Rattle.ab_infer.proofs.Makings.{made_is, reads_too}
use Rattle.ab_infer.proofs.Heads.{IsKnown, IsFree, IsSaid, names_known, heads_fit, ordinary_head, reading_heads, reading_said, variables_there, one_type_each}

module _ (D : Declarations) (s : Sequent) where
  -- what free names stand for
  pub made_there : (x : Name) → IsFree D s x → (A : Ty) → made x A ≡ nominal_of x A
  made_there x f A = made_is x f.0 f.1.0 A

  module _ (lists : HasLists D) (e : Tree) (A : Ty) (t : Read) (m : Means D s e A t) where
    there : NamesAre (IsKnown D s) (IsFree D s) m.named
    there = names_known D s lists e m.named m.names

    reads : Reads nominal_of m.reading.reading.types [] m.named m.reading.reading.term A m.reading.reading.given
    reads = reads_too (IsKnown D s) (IsFree D s) made nominal_of made_there there m.reading.reading.reads

    typed_raw : FitsType (signature_in D) [] m.raw A
    typed_raw =
        subst (λ r. FitsType (signature_in D) [] r A) m.reading.is
        (reading_fits (signature_in D) nominal_of m.reading.reading.types (λ x B G. refl) (heads_fit D s m.named there) reads)

    pub typed : HasType (signature_in D) [] t A
    typed = subst (λ r. HasType (signature_in D) [] r A) (sym m.normal) (normal_form_typed (signature_in D) typed_raw)

    heads_said : AreHeads (IsSaid D s m.reading.reading.types) t
    heads_said =
        let raw = subst (AreRawHeads (IsSaid D s m.reading.reading.types)) m.reading.is (reading_said D s m.reading.reading.types there reads) in
        subst (AreHeads (IsSaid D s m.reading.reading.types)) (sym m.normal) (heads_kept (IsSaid D s m.reading.reading.types) (λ i. tt) (signature_in D) [] m.raw raw)

    pub fits : HasOneTypeEach (goal_names s) → Fits D s t A
    fits one = record {
      typed = typed;
      closed = All-from_contains (Contains (map in_terms s.variables)) (variables t) (variables_there D s m.reading.reading.types t heads_said);
      one_type = one_type_each D s m.reading.reading.types one t heads_said;
    }

    heads_ordinary : ((x : Variable) → Contains s.variables x → PropFree x.type) → AreHeads IsOrdinary t
    heads_ordinary plain =
        let raw = reading_heads (IsKnown D s) (IsFree D s) IsOrdinary nominal_of m.reading.reading.types (λ i. tt) (λ B. tt) ordinary_binders (ordinary_head D s plain) (λ x f. tt) there reads in
        subst (AreHeads IsOrdinary) (sym m.normal)
        (heads_kept IsOrdinary (λ i. tt) (signature_in D) [] m.raw (subst (AreRawHeads IsOrdinary) m.reading.is raw))

  pub formula : HasLists D → ((x : Variable) → Contains s.variables x → PropFree x.type) → (e : Tree) (F : Read) → Means D s e prop F → IsFormula (signature_in D) F
  formula lists plain e F m =
      let d = typed lists e prop F m in
      record { typed = d; stands = stands (signature_in D) F [] tt (heads_ordinary lists e prop F m plain) d }
