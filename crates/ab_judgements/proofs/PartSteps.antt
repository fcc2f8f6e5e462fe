-- The stores through which a part's demand is made, each grown from the first.
use Rattle.std.proofs.Common.{◌≡◌, List, [], ◌∷◌, map, refl, ap, sym, ◌∙◌, subst}
use Rattle.std.specs.List.{All}
use Rattle.std.proofs.lemmas.List.Elements.{All-head, All-tail, All-nil, All-cons, All-weaker}
use Rattle.ab_norm.specs.ab_types.specs.Entries.{Table}
use Rattle.ab_norm.specs.ab_types.specs.Ids.{type_of}
use Rattle.ab_norm.specs.ab_types.proofs.Entries.{same_type, type_still_held}
use Rattle.ab_norm.specs.ab_store.specs.declared.node.CellId.{CellId}
use Rattle.ab_norm.specs.ab_store.specs.declared.node.Equation.{Equation}
use Rattle.ab_norm.specs.ab_store.specs.declared.node.TermId.{TermId}
use Rattle.ab_norm.specs.ab_store.specs.Trees.{Contents, Holds, HoldsCell}
use Rattle.ab_norm.specs.ab_store.specs.Growth.{IsExtendedBy}
use Rattle.ab_norm.specs.ab_store.specs.Naming.{IsTypedBy}
use Rattle.ab_norm.specs.NodeGrowth.{AddsTypedTerms}
use Rattle.ab_unify.specs.StoreChanges.{Grows}
use Rattle.ab_unify.proofs.Growth.{grows_on, grows_terms}
use Rattle.ab_alternatives.proofs.Assembled.{still_held}
use Rattle.ab_judgement_forms.specs.PartReadings.{name_read, HoldsName}
use Rattle.ab_judgement_forms.specs.declared.part_names.PartName.{PartName}
use Rattle.ab_judgements.proofs.CellsMade.{grows_by}

pub more_terms : (T U : Table) (S V W : Contents) → Grows T S U V → AddsTypedTerms U V W → Grows T S U W
more_terms T U S V W g a = grows_on T U U S V W g (grows_terms U V W a)

module _ (T : Table) (S S1 : Contents) (b1 : IsExtendedBy S S1) (t1 : IsTypedBy T S1) (S2 : Contents) (a2 : AddsTypedTerms T S1 S2) where
  pub g2 : Grows T S T S2
  g2 = more_terms T T S S1 S2 (grows_by T S S1 b1 t1) a2

  module _ (S3 : Contents) (a3 : AddsTypedTerms T S2 S3) where
    pub g3 : Grows T S T S3
    g3 = more_terms T T S S2 S3 g2 a3

    module _ (S4 : Contents) (a4 : AddsTypedTerms T S3 S4) where
      pub g4 : Grows T S T S4
      g4 = more_terms T T S S3 S4 g3 a4

      module _ (S5 : Contents) (a5 : AddsTypedTerms T S4 S5) where
        pub g5 : Grows T S T S5
        g5 = more_terms T T S S4 S5 g4 a5

        module _ (U : Table) (S6 : Contents) (grown : Grows T S5 U S6) where
          pub g6 : Grows T S U S6
          g6 = grows_on T T U S S5 S6 g5 grown

          module _ (S7 : Contents) (a7 : AddsTypedTerms U S6 S7) where
            pub g7 : Grows T S U S7
            g7 = more_terms T U S S6 S7 g6 a7

            module _ (S8 : Contents) (a8 : AddsTypedTerms U S7 S8) where
              pub g8 : Grows T S U S8
              g8 = more_terms T U S S7 S8 g7 a8

              pub g9 : (S9 : Contents) → AddsTypedTerms U S8 S9 → Grows T S U S9
              g9 S9 a9 = more_terms T U S S8 S9 g8 a9

-- since the third store, to that with the own cells' terms
pub scopes_later : (T U : Table) (S3 S4 S5 S6 S7 : Contents) → AddsTypedTerms T S3 S4 → AddsTypedTerms T S4 S5 → Grows T S5 U S6 → AddsTypedTerms U S6 S7 → Grows T S3 U S7
scopes_later T U S3 S4 S5 S6 S7 a4 a5 grown a7 = more_terms T U S3 S6 S7 (grows_on T T U S3 S5 S6 (more_terms T T S3 S4 S5 (grows_terms T S3 S4 a4) a5) grown) a7

-- the names' cells, when the own cells are made
pub cells_later : (T U : Table) (S1 S2 S3 S4 S5 S6 : Contents) → AddsTypedTerms T S1 S2 → AddsTypedTerms T S2 S3 → AddsTypedTerms T S3 S4 → AddsTypedTerms T S4 S5 → Grows T S5 U S6 → Grows T S1 U S6
cells_later T U S1 S2 S3 S4 S5 S6 a2 a3 a4 a5 grown =
    grows_on T T U S1 S5 S6 (more_terms T T S1 S4 S5 (more_terms T T S1 S3 S4 (more_terms T T S1 S2 S3 (grows_terms T S1 S2 a2) a3) a4) a5) grown

module _ (T U : Table) (S V : Contents) (g : Grows T S U V) where
  pub held_later : (ts ls : List TermId) → ls ≡ ts → All (Holds S) ts → All (Holds V) ls
  held_later ts ls e h = subst (All (Holds V)) (sym e) (still_held T U S V g ts h)

  pub cells_held_later : (cs ls : List CellId) → ls ≡ cs → All (HoldsCell S) cs → All (HoldsCell V) ls
  cells_held_later cs ls e h = subst (All (HoldsCell V)) (sym e) (All-weaker (HoldsCell S) (HoldsCell V) (λ c l. (g.cells c l).0) cs h)

  pub names_held_later : (ns ls : List PartName) → ls ≡ ns → All (HoldsName T) ns → All (HoldsName U) ls
  names_held_later ns ls e h = subst (All (HoldsName U)) (sym e) (All-weaker (HoldsName T) (HoldsName U) (λ a l. type_still_held T U g.table a.ty l) ns h)

  pub names_read_later : (ns : List PartName) → All (HoldsName T) ns → map (name_read U) ns ≡ map (name_read T) ns
  names_read_later [] h = refl
  names_read_later (a ∷ ns) h =
      ap (λ A. record { hint = a.hint; type = A } ∷ map (name_read U) ns) (ap (λ W. type_of W a.ty) g.table.1 ∙ same_type T g.table.0 a.ty (All-head (HoldsName T) a ns h))
      ∙ ap (λ l. name_read T a ∷ l) (names_read_later ns (All-tail (HoldsName T) a ns h))

-- the one equation's sides are there
pub one_equation_held : (V : Contents) (left right : TermId) → Holds V left → Holds V right → (es : List Equation) → es ≡ record { left = left; right = right } ∷ []
    → All (λ (e : Equation). Holds V e.left × Holds V e.right) es
one_equation_held V left right l r es are =
    let P : Equation → Type 0 = (λ (e : Equation). Holds V e.left × Holds V e.right) in
    let e : Equation = record { left = left; right = right } in
    subst (All P) (sym are) (All-cons P e [] (l, r) (All-nil P))
