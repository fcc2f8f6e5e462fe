-- What is told of a variable of each form.
use Rattle.std.proofs.Common.{◌≡◌, ◌≢◌, ℕ, ◌<◌, ◌⊎◌, inl, inr, List, [], ◌∷◌, length, get_or, Bool, true, false, refl, sym, ◌∙◌, ap, subst, arith}
use Rattle.std.specs.Prelude.{◌||◌}
use Rattle.ab_term.specs.Types.{Ty, kind, arrow, prop, o, olist}
use Rattle.ab_store.specs.ab_types.specs.Entries.{Table}
use Rattle.ab_store.specs.ab_types.specs.Ids.{type_of}
use Rattle.ab_store.specs.ab_types.specs.declared.ids.TypeId.{TypeId}
use Rattle.ab_meaning.specs.Types.{PropFree}
use Rattle.ab_inference.specs.declared.shape.Shape.{Shape}
use Rattle.ab_inference.specs.declared.shape.Shape.TheVariants.{Open, Link, Known, Arrow}
use Rattle.ab_inference.specs.Solutions.{Assignment, Fits, Solves}
use Rattle.ab_inference.specs.Assignments.{Tells}

kind_inj : {k l : List ℕ} → kind k ≡ kind l → k ≡ l
kind_inj e = cc

head_inj : {x y : ℕ} {xs ys : List ℕ} → x ∷ xs ≡ y ∷ ys → x ≡ y
head_inj e = cc

tail_inj : {x y : ℕ} {xs ys : List ℕ} → x ∷ xs ≡ y ∷ ys → xs ≡ ys
tail_inj e = cc

no_more : {y : ℕ} {ys : List ℕ} → [] ≡ y ∷ ys → ⊥
no_more e = cc

o_is_not_olist : o ≡ olist → ⊥
o_is_not_olist e = no_more (tail_inj (kind_inj e))

o_is_not_prop : o ≡ prop → ⊥
o_is_not_prop e = let h = head_inj (kind_inj e) in omega arith

olist_is_not_prop : olist ≡ prop → ⊥
olist_is_not_prop e = let h = head_inj (kind_inj e) in omega arith

pub tells_open : (types : Table) (shapes : List Shape) (i : ℕ) → Tells types shapes i true o olist
tells_open types shapes i = record {
  closed = λ e. absurd (cc);
  opened = λ _ e. o_is_not_olist e;
  forced = λ v h e. absurd (o_is_not_olist e);
  needs = λ v h f. (o_is_not_prop, olist_is_not_prop);
}

pub tells_known : (types : Table) (shapes : List Shape) (i : ℕ) (id : TypeId) → i < length shapes → get_or shapes i Open ≡ Known id → Tells types shapes i false (type_of types id) (type_of types id)
tells_known types shapes i id l is = record {
  closed = λ _. refl;
  opened = λ e. absurd (cc);
  forced = λ v h _. at_known v h;
  needs = λ v h f. let g : PropFree (type_of types id) = subst PropFree (at_known v h) f in (g, g);
}
  where
    at_known : (v : Assignment) → Solves types v shapes → v i ≡ type_of types id
    at_known v h = subst (Fits types v (v i)) is (h.at i l)

pub tells_link : (types : Table) (shapes : List Shape) (i j : ℕ) (a : Bool) (A B : Ty) → i < length shapes → get_or shapes i Open ≡ Link j → Tells types shapes j a A B → Tells types shapes i a A B
tells_link types shapes i j a A B l is t = record {
  closed = t.closed;
  opened = t.opened;
  forced = λ v h e. at_link v h ∙ t.forced v h e;
  needs = λ v h f. t.needs v h (subst PropFree (at_link v h) f);
}
  where
    at_link : (v : Assignment) → Solves types v shapes → v i ≡ v j
    at_link v h = subst (Fits types v (v i)) is (h.at i l)

or_false : (a b : Bool) → (a || b) ≡ false → (a ≡ false) × (b ≡ false)
or_false true b e = absurd (cc)
or_false false b e = (refl, e)

or_true : (a b : Bool) → (a || b) ≡ true → (a ≡ true) ⊎ (b ≡ true)
or_true true b e = inl refl
or_true false b e = inr e

arrow_from : {A B C D : Ty} → arrow A B ≡ arrow C D → A ≡ C
arrow_from e = cc

arrow_to : {A B C D : Ty} → arrow A B ≡ arrow C D → B ≡ D
arrow_to e = cc

pub tells_arrow : (types : Table) (shapes : List Shape) (i x y : ℕ) (a a2 : Bool) (A B A2 B2 : Ty) → i < length shapes → get_or shapes i Open ≡ Arrow x y
    → Tells types shapes x a A B → Tells types shapes y a2 A2 B2 → Tells types shapes i (a || a2) (arrow A A2) (arrow B B2)
tells_arrow types shapes i x y a a2 A B A2 B2 l is t u = record {
  closed = λ e. let f = or_false a a2 e in let h = t.closed f.0 in let k = u.closed f.1 in ap (λ C. arrow C A2) h ∙ ap (λ C. arrow B C) k;
  opened = λ e g. differ (or_true a a2 e) g;
  forced = λ v h e. at_arrow v h ∙ (ap (λ C. arrow C (v y)) (t.forced v h (arrow_from e)) ∙ ap (λ C. arrow A C) (u.forced v h (arrow_to e)));
  needs = λ v h f. let g : PropFree (arrow (v x) (v y)) = subst PropFree (at_arrow v h) f in
      let m = t.needs v h g.0 in let n = u.needs v h g.1 in ((m.0, n.0), (m.1, n.1));
}
  where
    at_arrow : (v : Assignment) → Solves types v shapes → v i ≡ arrow (v x) (v y)
    at_arrow v h = subst (Fits types v (v i)) is (h.at i l)

    differ : (a ≡ true) ⊎ (a2 ≡ true) → arrow A A2 ≡ arrow B B2 → ⊥
    differ (inl e) g = t.opened e (arrow_from g)
    differ (inr e) g = u.opened e (arrow_to g)
