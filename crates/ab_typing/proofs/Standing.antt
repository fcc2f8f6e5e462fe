-- Terms in the places of formulas, node by node.
use Rattle.std.proofs.Common.{◌≡◌, ◌↔◌, List, [], ◌∷◌, map, Bool, true, sym, ap, ◌∙◌, subst}
use Rattle.std.specs.List.{All}
use Rattle.std.proofs.lemmas.List.Elements.{All-nil, All-cons, All-head, All-tail}
use Rattle.ab_term.specs.Terms.{terms_of, Read}
use Rattle.ab_store.specs.ab_types.specs.Entries.{Table}
use Rattle.ab_store.specs.declared.node.TermId.{TermId}
use Rattle.ab_store.specs.declared.node.Head.{Head}
use Rattle.ab_store.specs.declared.node.Node.{Node}
use Rattle.ab_store.specs.declared.node.Node.TheVariants.{Spine}
use Rattle.ab_store.specs.Trees.{Contents, tree_of, head_reading, node_tree}
use Rattle.ab_formulas.specs.Formulas.{Place, a_formula, IsRigid, places_of, StandsIn, AllStandIn}

all_stand : (p : Place) (f : TermId → Read) (ts : List TermId) → All (λ t. StandsIn p (f t)) ts → AllStandIn p (terms_of (map f ts))
all_stand p f [] h = tt
all_stand p f (t ∷ ts) h = (All-head (λ t. StandsIn p (f t)) t ts h, all_stand p f ts (All-tail (λ t. StandsIn p (f t)) t ts h))

each_stands : (p : Place) (f : TermId → Read) (ts : List TermId) → AllStandIn p (terms_of (map f ts)) → All (λ t. StandsIn p (f t)) ts
each_stands p f [] h = All-nil (λ t. StandsIn p (f t))
each_stands p f (t ∷ ts) h = All-cons (λ t. StandsIn p (f t)) t ts h.0 (each_stands p f ts h.1)

pub stands_spine : (types : Table) (s : Contents) (t : TermId) (n : Node) (h : Head) (ts given : List TermId) (p : Place) (r : Bool)
    → tree_of types s t ≡ node_tree types s n → n ≡ Spine h ts → given ≡ ts
    → IsRigid (head_reading types s h) → p ≡ places_of (head_reading types s h)
    → (r ≡ true) ↔ All (λ t. StandsIn p (tree_of types s t)) given
    → (r ≡ true) ↔ StandsIn a_formula (tree_of types s t)
stands_spine types s t n h ts given p r reads is same rigid place all =
    subst (λ u. (r ≡ true) ↔ StandsIn a_formula u) (sym (reads ∙ ap (node_tree types s) is)) (
      λ e. (rigid, subst (λ q. AllStandIn q (terms_of (map (tree_of types s) ts))) place (all_stand p (tree_of types s) ts (subst (All (λ t. StandsIn p (tree_of types s t))) same (all.0 e)))),
      λ w. all.1 (subst (All (λ t. StandsIn p (tree_of types s t))) (sym same) (each_stands p (tree_of types s) ts (subst (λ q. AllStandIn q (terms_of (map (tree_of types s) ts))) (sym place) w.1))),
    )
