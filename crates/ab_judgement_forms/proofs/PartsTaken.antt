-- A formula in focus is taken apart, from the outermost connective on, while names and goals stand around.
use Rattle.std.proofs.Common.{◌≡◌, ℕ, zero, suc, ◌+◌, ◌-◌, List, [], ◌∷◌, ◌++◌, map, length, refl, sym, ap, ◌∙◌, subst, arith, append_assoc, length-append}
use Rattle.std.specs.List.{All}
use Rattle.std.proofs.lemmas.List.{map-append}
use Rattle.std.proofs.lemmas.List.Elements.{All-head, All-tail, All-push, All-weaker}
use Rattle.ab_term.specs.Types.{Ty}
use Rattle.ab_term.specs.Terms as tree
use Rattle.ab_term.specs.Terms.{lam, spine, Terms, Read}
use Rattle.ab_term.specs.Reach.{raise}
use Rattle.ab_norm.specs.ab_types.specs.Entries.{Table}
use Rattle.ab_norm.specs.ab_store.specs.declared.node.TermId.{TermId}
use Rattle.ab_norm.specs.ab_store.specs.Trees.{Contents, Holds, tree_of}
use Rattle.ab_norm.specs.ab_store.specs.Growth.{IsExtendedBy}
use Rattle.ab_norm.proofs.Frame.{still_read_before}
use Rattle.ab_unifiers.specs.Replacements.{Cell}
use Rattle.ab_theory.specs.Parts.{Part, under_name, with_goal, parts_of}
use Rattle.ab_judgement_forms.specs.declared.part_names.PartName.{PartName}
use Rattle.ab_judgement_forms.specs.declared.focus_parts.Part.{Part as Kept}
use Rattle.ab_judgement_forms.specs.declared.focus_parts.Placed.{Placed}
use Rattle.ab_judgement_forms.specs.Shapes.{for_names, behind, together, other, shape_of}
use Rattle.ab_judgement_forms.specs.PartReadings.{name_read, part_read, HoldsName, HoldsPart}
use Rattle.ab_judgement_forms.specs.PartWalks.{goal_inside, inside, alone, IsAround}
use Rattle.ab_judgement_forms.proofs.Connectives.{parts_by, seen}

module _ (T : Table) (S : Contents) where
  -- one name more stands around
  inside_name : (ns : List PartName) (gs : List Placed) (n : PartName) (p : Part) → inside T S (ns ++ n ∷ []) gs p ≡ inside T S ns gs (under_name (name_read T n) p)
  inside_name ns gs n p =
      let long = length-append ns (n ∷ []) in
      let count : length (ns ++ n ∷ []) + length p.names ≡ length ns + suc (length p.names) = omega (arith, long) in
      let named : map (name_read T) (ns ++ n ∷ []) ++ p.names ≡ map (name_read T) ns ++ name_read T n ∷ p.names = ap (λ l. l ++ p.names) (map-append (name_read T) ns (n ∷ [])) ∙ append_assoc (map (name_read T) ns) (name_read T n ∷ []) p.names in
      ap (λ (l : List (Cell (List ℕ))). record { names = l; goals = map (goal_inside T S (length (ns ++ n ∷ []) + length p.names)) gs ++ p.goals; atom = p.atom }) named
      ∙ ap (λ (k : ℕ). record { names = map (name_read T) ns ++ name_read T n ∷ p.names; goals = map (goal_inside T S k) gs ++ p.goals; atom = p.atom }) count

  -- one goal more, under all names that stand around
  inside_goal : (ns : List PartName) (gs : List Placed) (G : TermId) (p : Part) → inside T S ns (gs ++ record { depth = length ns; goal = G } ∷ []) p ≡ inside T S ns gs (with_goal (tree_of T S G) p)
  inside_goal ns gs G p =
      let g : Placed = record { depth = length ns; goal = G } in
      let f = goal_inside T S (length ns + length p.names) in
      let count : (length ns + length p.names) - length ns ≡ length p.names = omega arith in
      ap (λ (l : List Read). record { names = map (name_read T) ns ++ p.names; goals = l; atom = p.atom })
      (ap (λ l. l ++ p.goals) (map-append f gs (g ∷ [])) ∙ append_assoc (map f gs) (f g ∷ []) p.goals ∙ ap (λ d. map f gs ++ raise d zero (tree_of T S G) ∷ p.goals) count)

  all_name : (ns : List PartName) (gs : List Placed) (n : PartName) (ps : List Part) → map (inside T S (ns ++ n ∷ []) gs) ps ≡ map (inside T S ns gs) (map (under_name (name_read T n)) ps)
  all_name ns gs n [] = refl
  all_name ns gs n (p ∷ ps) = ap (λ q. q ∷ map (inside T S (ns ++ n ∷ []) gs) ps) (inside_name ns gs n p) ∙ ap (λ l. inside T S ns gs (under_name (name_read T n) p) ∷ l) (all_name ns gs n ps)

  all_goal : (ns : List PartName) (gs : List Placed) (G : TermId) (ps : List Part) → map (inside T S ns (gs ++ record { depth = length ns; goal = G } ∷ [])) ps ≡ map (inside T S ns gs) (map (with_goal (tree_of T S G)) ps)
  all_goal ns gs G [] = refl
  all_goal ns gs G (p ∷ ps) =
      ap (λ q. q ∷ map (inside T S ns (gs ++ record { depth = length ns; goal = G } ∷ [])) ps) (inside_goal ns gs G p) ∙ ap (λ l. inside T S ns gs (with_goal (tree_of T S G) p) ∷ l) (all_goal ns gs G ps)

-- a store that grew
module _ (T : Table) (S U : Contents) (more : IsExtendedBy S U) where
  goals_still : (k : ℕ) (gs : List Placed) → All (λ (g : Placed). Holds S g.goal) gs → map (goal_inside T U k) gs ≡ map (goal_inside T S k) gs
  goals_still k [] h = refl
  goals_still k (g ∷ gs) h =
      ap (λ t. raise (k - g.depth) zero t ∷ map (goal_inside T U k) gs) (more.trees T g.goal (All-head (λ (g : Placed). Holds S g.goal) g gs h))
      ∙ ap (λ l. goal_inside T S k g ∷ l) (goals_still k gs (All-tail (λ (g : Placed). Holds S g.goal) g gs h))

  inside_still : (ns : List PartName) (gs : List Placed) → All (λ (g : Placed). Holds S g.goal) gs → (ps : List Part) → map (inside T U ns gs) ps ≡ map (inside T S ns gs) ps
  inside_still ns gs h [] = refl
  inside_still ns gs h (p ∷ ps) =
      ap (λ (l : List Read). record { names = map (name_read T) ns ++ p.names; goals = l ++ p.goals; atom = p.atom } ∷ map (inside T U ns gs) ps) (goals_still (length ns + length p.names) gs h)
      ∙ ap (λ l. inside T S ns gs p ∷ l) (inside_still ns gs h ps)

  part_still : (q : Kept) → HoldsPart T S q → part_read T U q ≡ part_read T S q
  part_still q h =
      ap (λ (l : List Read). record { names = map (name_read T) q.names.items; goals = l; atom = tree_of T U q.atom }) (still_read_before T S U q.goals.items more h.goals)
      ∙ ap (λ (t : Read). record { names = map (name_read T) q.names.items; goals = map (tree_of T S) q.goals.items; atom = t }) (more.trees T q.atom h.atom)

  pub parts_still : (qs : List Kept) → All (HoldsPart T S) qs → map (part_read T U) qs ≡ map (part_read T S) qs
  parts_still [] h = refl
  parts_still (q ∷ qs) h = ap (λ p. p ∷ map (part_read T U) qs) (part_still q (All-head (HoldsPart T S) q qs h)) ∙ ap (λ l. part_read T S q ∷ l) (parts_still qs (All-tail (HoldsPart T S) q qs h))

  part_held : (q : Kept) → HoldsPart T S q → HoldsPart T U q
  part_held q h = record { names = h.names; goals = All-weaker (Holds S) (Holds U) more.ids q.goals.items h.goals; atom = more.ids q.atom h.atom }

  pub parts_held : (qs : List Kept) → All (HoldsPart T S) qs → All (HoldsPart T U) qs
  parts_held qs h = All-weaker (HoldsPart T S) (HoldsPart T U) part_held qs h

  pub around_held : (ns : List PartName) (gs : List Placed) → IsAround T S ns gs → IsAround T U ns gs
  around_held ns gs h = record { named = h.named; placed = All-weaker (λ (g : Placed). Holds S g.goal) (λ (g : Placed). Holds U g.goal) (λ g. more.ids g.goal) gs h.placed }

-- the formula's parts, by its outermost connective
module _ (F : Read) where
  pub parts_pi : (a t : Read) (A B : Ty) (x : List ℕ) → shape_of F ≡ for_names A a → a ≡ lam B x t → parts_of F ≡ map (under_name (record { hint = x; type = A })) (parts_of t)
  parts_pi a t A B x shape is = (seen F).parts ∙ ap (parts_by F) (shape ∙ ap (for_names A) is)

  pub parts_spine : (a : Read) (A : Ty) (h : tree.Head ℕ) (ts : Terms ℕ (List ℕ)) → shape_of F ≡ for_names A a → a ≡ spine h ts → parts_of F ≡ alone F ∷ []
  parts_spine a A h ts shape is = (seen F).parts ∙ ap (parts_by F) (shape ∙ ap (for_names A) is)

  pub parts_imply : (G H : Read) → shape_of F ≡ behind G H → parts_of F ≡ map (with_goal G) (parts_of H)
  parts_imply G H shape = (seen F).parts ∙ ap (parts_by F) shape

  pub parts_with : (G H : Read) → shape_of F ≡ together G H → parts_of F ≡ parts_of G ++ parts_of H
  parts_with G H shape = (seen F).parts ∙ ap (parts_by F) shape

  pub parts_other : shape_of F ≡ other → parts_of F ≡ alone F ∷ []
  parts_other shape = (seen F).parts ∙ ap (parts_by F) shape

-- WHAT IS PUT BEHIND the parts that are there already
module _ (T : Table) (S : Contents) (ns : List PartName) (gs : List Placed) where
  -- an atom
  pub one_taken : (V : Contents) (F : Read) (qs new : List Kept) (q : Kept) → parts_of F ≡ alone F ∷ [] → new ≡ qs ++ q ∷ [] → IsExtendedBy S V → All (HoldsPart T S) qs
      → part_read T V q ≡ inside T S ns gs (alone F)
      → map (part_read T V) new ≡ map (part_read T S) qs ++ map (inside T S ns gs) (parts_of F)
  one_taken V F qs new q parts push more held here =
      ap (map (part_read T V)) push
      ∙ map-append (part_read T V) qs (q ∷ [])
      ∙ ap (λ l. l ++ part_read T V q ∷ []) (parts_still T S V more qs held)
      ∙ ap (λ p. map (part_read T S) qs ++ p ∷ []) here
      ∙ ap (λ l. map (part_read T S) qs ++ map (inside T S ns gs) l) (sym parts)

  -- `=>`
  pub goal_taken : (F H : Read) (G : TermId) (d : ℕ) (hs : List Placed) (before after : List Part) → shape_of F ≡ behind (tree_of T S G) H → d ≡ length ns → hs ≡ gs ++ record { depth = d; goal = G } ∷ []
      → after ≡ before ++ map (inside T S ns hs) (parts_of H) → after ≡ before ++ map (inside T S ns gs) (parts_of F)
  goal_taken F H G d hs before after shape depth push reads =
      reads
      ∙ ap (λ l. before ++ map (inside T S ns l) (parts_of H)) (push ∙ ap (λ (k : ℕ). gs ++ record { depth = k; goal = G } ∷ []) depth)
      ∙ ap (λ l. before ++ l) (all_goal T S ns gs G (parts_of H))
      ∙ ap (λ l. before ++ map (inside T S ns gs) l) (sym (parts_imply F (tree_of T S G) H shape))

  -- `pi`
  pub name_taken : (F a t : Read) (A B : Ty) (x : List ℕ) (n : PartName) (ms : List PartName) (before after : List Part) → shape_of F ≡ for_names A a → a ≡ lam B x t → name_read T n ≡ record { hint = x; type = A } → ms ≡ ns ++ n ∷ []
      → after ≡ before ++ map (inside T S ms gs) (parts_of t) → after ≡ before ++ map (inside T S ns gs) (parts_of F)
  name_taken F a t A B x n ms before after shape is name push reads =
      reads
      ∙ ap (λ l. before ++ map (inside T S l gs) (parts_of t)) push
      ∙ ap (λ l. before ++ l) (all_name T S ns gs n (parts_of t))
      ∙ ap (λ c. before ++ map (inside T S ns gs) (map (under_name c) (parts_of t))) name
      ∙ ap (λ l. before ++ map (inside T S ns gs) l) (sym (parts_pi F a t A B x shape is))

  -- `&`
  pub both_taken : (U : Contents) → IsExtendedBy S U → All (λ (g : Placed). Holds S g.goal) gs → (F G H H2 : Read) (ms : List PartName) (hs : List Placed) (before middle after : List Part)
      → shape_of F ≡ together G H → H2 ≡ H → ms ≡ ns → hs ≡ gs → middle ≡ before ++ map (inside T S ns gs) (parts_of G) → after ≡ middle ++ map (inside T U ms hs) (parts_of H2)
      → after ≡ before ++ map (inside T S ns gs) (parts_of F)
  both_taken U more held F G H H2 ms hs before middle after shape still names goals first second =
      second
      ∙ ap (λ l. middle ++ map (inside T U ms hs) (parts_of l)) still
      ∙ ap (λ l. middle ++ map (inside T U l hs) (parts_of H)) names
      ∙ ap (λ l. middle ++ map (inside T U ns l) (parts_of H)) goals
      ∙ ap (λ l. middle ++ l) (inside_still T S U more ns gs held (parts_of H))
      ∙ ap (λ l. l ++ map (inside T S ns gs) (parts_of H)) first
      ∙ append_assoc before (map (inside T S ns gs) (parts_of G)) (map (inside T S ns gs) (parts_of H))
      ∙ ap (λ l. before ++ l) (sym (map-append (inside T S ns gs) (parts_of G) (parts_of H)))
      ∙ ap (λ l. before ++ map (inside T S ns gs) l) (sym (parts_with F G H shape))

-- around a whole formula stands nothing
pub inside_nothing : (T : Table) (S : Contents) (ps : List Part) → map (inside T S [] []) ps ≡ ps
inside_nothing T S [] = refl
inside_nothing T S (p ∷ ps) = ap (λ l. p ∷ l) (inside_nothing T S ps)

-- one part more
pub one_held : (T : Table) (S V : Contents) → IsExtendedBy S V → (qs new : List Kept) (q : Kept) → new ≡ qs ++ q ∷ [] → All (HoldsPart T S) qs → HoldsPart T V q → All (HoldsPart T V) new
one_held T S V more qs new q push held here = subst (All (HoldsPart T V)) (sym push) (All-push (HoldsPart T V) qs q (parts_held T S V more qs held) here)

-- what stands around stays there
pub around_same : (T : Table) (S V : Contents) → IsExtendedBy S V → (ns ms : List PartName) (gs hs : List Placed) → ms ≡ ns → hs ≡ gs → IsAround T S ns gs → IsAround T V ms hs
around_same T S V more ns ms gs hs names goals h =
    let there = around_held T S V more ns gs h in
    record { named = subst (All (HoldsName T)) (sym names) there.named; placed = subst (All (λ (g : Placed). Holds V g.goal)) (sym goals) there.placed }
