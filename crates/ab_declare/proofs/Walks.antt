-- Head and body as one row.
use Rattle.std.specs.Prelude.{Ok, Err, None}
use Rattle.std.proofs.Common.{◌≡◌, ℕ, List, [], ◌∷◌, map, length, Some, refl, sym, ap, ◌∙◌}
use Rattle.ab_term.specs.Types.{Ty, arrow, prop}
use Rattle.ab_term.specs.Logical.{truth}
use Rattle.ab_term.specs.Terms as tree
use Rattle.ab_term.specs.Terms.{Term, spine, no_terms, term, terms_of, Read}
use Rattle.ab_norm.specs.ab_types.specs.Entries.{Table, IsExtendedBy}
use Rattle.ab_norm.specs.ab_types.specs.Ids.{HoldsType, type_of}
use Rattle.ab_norm.specs.ab_types.specs.declared.ids.TypeId.{TypeId}
use Rattle.ab_norm.specs.ab_store.specs.declared.node.TermId.{TermId}
use Rattle.ab_norm.specs.ab_store.specs.declared.node.Head.TheVariants.{Nominal, Logic}
use Rattle.ab_norm.specs.ab_store.specs.declared.node.Logical.TheVariants.{True}
use Rattle.ab_norm.specs.ab_store.specs.Trees.{Contents}
use Rattle.ab_norm.specs.ab_store.specs.Naming.{IsTypedBy}
use Rattle.ab_meaning.specs.ResolvedNames.{Name, known, apply}
use Rattle.ab_meaning.specs.Scopes.{Scope, Found, made_of_both}
use Rattle.ab_inference.specs.declared.op.Op.TheVariants as op
use Rattle.ab_inference.specs.Sketches.{erase}
use Rattle.ab_infer.proofs.Larger.{type_more}
use Rattle.ab_infer.specs.declared.row.Row.{Row}
use Rattle.ab_infer.specs.Rows.{Grew, Makes}
use Rattle.ab_infer.specs.WalkMoves.{Puts}
use Rattle.ab_infer.proofs.Single.{grew_known}
use Rattle.ab_infer.proofs.Growing.{grew_apply}
use Rattle.ab_infer.proofs.Wholes.{grew_whole}
use Rattle.ab_declare.specs.ClauseMeanings.{body_found}
use Rattle.ab_declare.specs.JoinedRows.{joiner, joiner_type, joined_found}

-- a head that is given two terms
pub two_given : (f : TermId → Read) (g h : tree.Head ℕ) (ts : List TermId) (t u : Read) → spine g (terms_of (map f ts)) ≡ spine h (term t (term u no_terms)) → length ts ≡ 2
two_given f g h [] t u e = absurd (cc)
two_given f g h (a ∷ []) t u e = absurd (cc)
two_given f g h (a ∷ (b ∷ [])) t u e = refl
two_given f g h (a ∷ (b ∷ (c ∷ ts))) t u e = absurd (cc)

pub joins : (s t u : Table) (first second last rest id : TypeId) → IsExtendedBy s t → HoldsType s first → type_of t rest ≡ arrow (type_of s second) (type_of s last) → type_of u id ≡ arrow (type_of t first) (type_of t rest)
    → type_of u id ≡ arrow (type_of s first) (arrow (type_of s second) (type_of s last))
joins s t u first second last rest id more held r e = e ∙ (ap (λ A. arrow A (type_of t rest)) (type_more s t more first held) ∙ ap (arrow (type_of s first)) r)

-- `true` is put behind the row
pub truth_put : (t : Table) (store : Contents) (old new : Row) (s : Scope) (id : TypeId) → IsTypedBy t store → HoldsType t id → type_of t id ≡ prop → Puts old new (op.Known (Logic True) id) → Grew t store old new (body_found s None)
truth_put t store old new s id typed held is puts =
    grew_known t store old new (Logic True) id (body_found s None) typed held (record { held = tt; typed = tt; is = λ G. ap Some (sym is) })
    (ap (λ A. Ok (known (tree.logical truth) A)) (sym is)) puts

module _ (S : Contents) (A B : Ty) (f g : Found) where
  -- the head, the body and what joins them
  pub row_made : (t1 t2 t3 : Table) (r0 r1 r2 r3 r4 r5 : Row) (id : TypeId) → IsTypedBy t1 S → HoldsType t1 id → type_of t1 id ≡ joiner_type A B → IsExtendedBy t1 t2 → IsExtendedBy t2 t3
      → r0.steps.items ≡ [] → r0.marks.items ≡ [] → r0.names.items ≡ [] → r0.variables.items ≡ [] → r0.bound.items ≡ []
      → Puts r0 r1 (op.Known (Nominal 0 id) id) → Grew t2 S r1 r2 f → Puts r2 r3 op.Apply → Grew t3 S r3 r4 g → Puts r4 r5 op.Apply → Makes t3 S r5 (joined_found A B f g)
  row_made t1 t2 t3 r0 r1 r2 r3 r4 r5 id typed held is e12 e23 steps marks names variables outer p1 a p3 b p5 =
      let first : Grew t1 S r0 r1 (Ok (known (joiner A B) (joiner_type A B))) =
      grew_known t1 S r0 r1 (Nominal 0 id) id (Ok (known (joiner A B) (joiner_type A B))) typed held (record { held = tt; typed = held; is = λ G. refl })
      (ap (λ T. Ok (known (tree.nominal (record { number = 0; type = T })) T)) (sym is)) p1 in
      let headed = grew_apply S t1 t2 r0 r1 r2 r3 (Ok (known (joiner A B) (joiner_type A B))) f e12 first a p3 in
      let whole = grew_apply S t2 t3 r0 r3 r4 r5 (made_of_both apply (Ok (known (joiner A B) (joiner_type A B))) f) g e23 headed b p5 in
      grew_whole t3 S r0 r5 (joined_found A B f g) steps marks names variables outer whole

  pub head_fails : (x : Name) → f ≡ Err x → joined_found A B f g ≡ Err x
  head_fails x h = ap (λ r. joined_found A B r g) h

  pub body_fails : (t : Table) (old new : Row) (x : Name) → Grew t S old new f → g ≡ Err x → joined_found A B f g ≡ Err x
  body_fails t old new x a h = ap (λ r. joined_found A B r g) a.is ∙ ap (λ r. joined_found A B (Ok (erase a.sketch)) r) h
