-- What is kept while links are followed.
use Rattle.std.proofs.Common.{◌≡◌, ℕ, ◌≤◌, ◌<◌, List, length, get_or, refl, sym, ◌∙◌, ap, subst, arith}
use Rattle.ab_store.specs.ab_types.specs.Entries.{Table}
use Rattle.ab_inference.specs.declared.shape.Shape.{Shape}
use Rattle.ab_inference.specs.declared.shape.Shape.TheVariants.{Open, Link}
use Rattle.ab_inference.specs.Solutions.{AreFormed, AreHeld, IsRoot, Fits, loose, Leads, Same, KeepsRoots, shape_at}
use Rattle.ab_inference.proofs.Joining.{link_order, same_both}

pub record Followed (old new : List Shape) (i here : ℕ) : Type 0 where
  pub formed : AreFormed new
  pub held : (types : Table) → AreHeld types old → AreHeld types new
  pub below : here ≤ i
  pub leads : (types : Table) → Leads types new i here
  pub same : (types : Table) → Same types old new
  pub roots : KeepsRoots old new
  pub as_many : loose new ≡ loose old

pub begin : (s : List Shape) (i : ℕ) → AreFormed s → Followed s s i i
begin s i f = record {
  formed = f;
  held = λ types h. h;
  below = omega arith;
  leads = λ types v h. refl;
  same = λ types. record { back = λ v h. h; on = λ v h. h };
  roots = λ k r. refl;
  as_many = refl;
}

pub further : (old s new : List Shape) (i here next : ℕ) → Followed old s i here → here < length s → shape_at s here ≡ Link next
    → AreFormed new → ((types : Table) → AreHeld types s → AreHeld types new) → ((types : Table) → Same types s new) → KeepsRoots s new → loose new ≡ loose s
    → Followed old new i next
further old s new i here next k here_in is f held same roots as_many = record {
  formed = f;
  held = λ types h. held types (k.held types h);
  below = let o = link_order s here next k.formed here_in is in omega (arith, o.0, k.below);
  leads = λ types v h. let g = (same types).back v h in
      let e : v here ≡ v next = subst (Fits types v (v here)) is (g.at here here_in) in
      k.leads types v g ∙ e;
  same = λ types. same_both types old s new (k.same types) (same types);
  roots = λ j r. let e = k.roots j r in roots j (subst IsRoot (sym e) r) ∙ e;
  as_many = as_many ∙ k.as_many;
}

-- links followed from one variable and then from another
pub lead_on : (types : Table) (s t : List Shape) (i r : ℕ) → Same types s t → Leads types s i r → Leads types t i r
lead_on types s t i r same leads v h = leads v (same.back v h)
