-- WHAT TAKES THE PLACES OF NAMES: variables for names, of which some are closed and the others become new variables, are at once what stands in for
-- the names.
use Rattle.std.proofs.Common.{◌≡◌, ℕ, suc, ◌+◌, ◌<◌, ◌≤◌, inl, inr, List, [], ◌∷◌, ◌++◌, map, length, filter, Bool, true, false, cond, not, ◌||◌, Some, None, codes, refl, sym, ◌∙◌, ap, arith}
use Rattle.std.specs.Prelude.{Contains}
use Rattle.std.proofs.lemmas.Bool.{false_from_ne_true}
use Rattle.ab_term.specs.Types.{Ty, o, arrows}
use Rattle.ab_term.specs.Terms as tree
use Rattle.ab_term.specs.Terms.{Nominal, variable, index, no_terms, terms_of, Read}
use Rattle.ab_term.specs.Typing.{Signature, HasType, TakeType, take_none, take_term}
use Rattle.ab_term.specs.Substitution.{instance_by_all}
use Rattle.ab_term.specs.Expansion.{expansion}
use Rattle.ab_term.specs.Variables.{Substitution, variables, value_in, image, IsTyped}
use Rattle.ab_term.specs.Sameness.{same_number, same_numbered}
use Rattle.ab_term.proofs.Closed.{closed_typed, closed_reach}
use Rattle.ab_term.proofs.Compositions.{map_typed}
use Rattle.ab_term.proofs.Depends.{image_unmoved}
use Rattle.ab_term.proofs.Expansions.{expansion_typed}
use Rattle.ab_term.proofs.InOrder.{image-instances}
use Rattle.ab_term.proofs.Lists.{Contains-none, Contains-here, Contains-there, Contains-cases}
use Rattle.ab_term.proofs.OwnExpansion.{image_by-expansion_of}
use Rattle.ab_term.proofs.Preservation.{instance_by_all_typed}
use Rattle.ab_term.proofs.Same.{same_numbered-Decides}
use Rattle.ab_unifiers.specs.Replacements.{Cell, holds}
use Rattle.ab_unifiers.specs.Unifiers.{AreDifferent}
use Rattle.ab_unifiers.specs.Clauses.{Each, put_together}
use Rattle.ab_unifiers.specs.Prefixes.{own_terms}
use Rattle.ab_unifiers.specs.Alternatives.{made_terms}
use Rattle.ab_unifiers.proofs.Lifting.{made_terms_typed}
use Rattle.ab_unifiers.proofs.Past.{own}
use Rattle.ab_unifiers.proofs.Rows.{each_any, found_each, together_typed}
use Rattle.ab_formulas.specs.Sequents.{Variable, in_terms}
use Rattle.ab_theory.specs.Equations.{variables_from}
use Rattle.ab_theory.specs.Splits.{cell_for}
use Rattle.ab_theory.proofs.FocusParts.{types_of}
use Rattle.ab_judgement_forms.specs.DemandWalks.{trues, chosen, stand_ins}
use Rattle.ab_judgement_forms.proofs.ClosedInTurn.{closed_all, closed_head, AreOther, others_stay, its_name, closed-instances, closed-expansion, none_closed, map_then, names_above, closed_all_typed}
use Rattle.ab_judgement_forms.proofs.FormsPutIn.{IsHinted, AreHinted, made_hinted, own_put}

-- the variables of the term are numbered below this
abbrev pub IsBelow : ℕ → Read → Type 0
IsBelow n t = (y : tree.Variable ℕ) → Contains (variables t) y → y.name < n

-- what stands under binders for all names, typed and over variables that there were
abbrev pub IsScope : Signature → ℕ → List (Cell (List ℕ)) → Read → Type 0
IsScope sg n cs t = HasType sg [] t (arrows (types_of cs) o) × IsBelow n t

abbrev pub AllScopes : Signature → ℕ → List (Cell (List ℕ)) → List Read → Type 0
AllScopes sg n cs [] = Unit {0}
AllScopes sg n cs (t ∷ ts) = IsScope sg n cs t × AllScopes sg n cs ts

-- THOSE THAT ARE CHOSEN of a list
pub kept_chosen : {X : Type 0} (p : X → Bool) (xs : List X) → filter p xs ≡ chosen (map p xs) xs
kept_chosen p [] = refl
kept_chosen {X = X} p (x ∷ xs) = go (p x) (kept_chosen p xs)
  where
    go : (b : Bool) → filter p xs ≡ chosen (map p xs) xs → cond b (x ∷ filter p xs) (filter p xs) ≡ chosen (b ∷ map p xs) (x ∷ xs)
    go true e = ap (λ l. x ∷ l) e
    go false e = e

pub dropped_chosen : {X : Type 0} (p : X → Bool) (xs : List X) → filter (λ x. not (p x)) xs ≡ chosen (map not (map p xs)) xs
dropped_chosen p [] = refl
dropped_chosen {X = X} p (x ∷ xs) = go (not (p x)) (dropped_chosen p xs)
  where
    go : (b : Bool) → filter (λ x. not (p x)) xs ≡ chosen (map not (map p xs)) xs → cond b (x ∷ filter (λ x. not (p x)) xs) (filter (λ x. not (p x)) xs) ≡ chosen (b ∷ map not (map p xs)) (x ∷ xs)
    go true e = ap (λ l. x ∷ l) e
    go false e = e

pub chosen-map : {X Y : Type 0} (f : X → Y) (bs : List Bool) (xs : List X) → map f (chosen bs xs) ≡ chosen bs (map f xs)
chosen-map f [] xs = refl
chosen-map f (b ∷ bs) [] = refl
chosen-map f (true ∷ bs) (x ∷ xs) = ap (λ l. f x ∷ l) (chosen-map f bs xs)
chosen-map f (false ∷ bs) (x ∷ xs) = chosen-map f bs xs

cells_from : (n : ℕ) (cs : List (Cell (List ℕ))) → map cell_for (variables_from n cs) ≡ cs
cells_from n [] = refl
cells_from n (c ∷ cs) = ap (λ l. c ∷ l) (cells_from (n + 1) cs)

pub chosen_cells : (bs : List Bool) (n : ℕ) (cs : List (Cell (List ℕ))) → map cell_for (chosen bs (variables_from n cs)) ≡ chosen bs cs
chosen_cells bs n cs = chosen-map cell_for bs (variables_from n cs) ∙ ap (chosen bs) (cells_from n cs)

chosen_length : (bs : List Bool) (n : ℕ) (cs : List (Cell (List ℕ))) → length bs ≡ length cs → length (chosen bs (variables_from n cs)) ≡ trues bs
chosen_length [] n cs e = refl
chosen_length (b ∷ bs) n [] e = absurd (cc)
chosen_length (true ∷ bs) n (c ∷ cs) e = let rest : length bs ≡ length cs = omega (arith, e) in ap suc (chosen_length bs (n + 1) cs rest)
chosen_length (false ∷ bs) n (c ∷ cs) e = let rest : length bs ≡ length cs = omega (arith, e) in chosen_length bs (n + 1) cs rest

-- NUMBERS of such variables
chosen_from : (bs : List Bool) (n : ℕ) (cs : List (Cell (List ℕ))) (y : Variable) → Contains (chosen bs (variables_from n cs)) y → n ≤ y.number
chosen_from [] n cs y m = absurd (Contains-none y m)
chosen_from (b ∷ bs) n [] y m = absurd (Contains-none y m)
chosen_from (true ∷ bs) n (c ∷ cs) y m = elim (Contains-cases (record { number = n; type = c.type; name = c.hint }) (chosen bs (variables_from (n + 1) cs)) y m) [
  | inl e ↦ (let same : n ≡ y.number = ap (λ (v : Variable). v.number) e in omega (arith, same))
  | inr k ↦ omega (arith, chosen_from bs (n + 1) cs y k)
]
chosen_from (false ∷ bs) n (c ∷ cs) y m = omega (arith, chosen_from bs (n + 1) cs y m)

others_behind : (bs : List Bool) (n : ℕ) (cs : List (Cell (List ℕ))) (i : ℕ) → i < n → AreOther i (chosen bs (variables_from n cs))
others_behind [] n cs i l = tt
others_behind (b ∷ bs) n [] i l = tt
others_behind (true ∷ bs) n (c ∷ cs) i l = (λ e. omega (arith, l, e), others_behind bs (n + 1) cs i (omega (arith, l)))
others_behind (false ∷ bs) n (c ∷ cs) i l = others_behind bs (n + 1) cs i (omega (arith, l))

all_behind : (n : ℕ) (cs : List (Cell (List ℕ))) (i : ℕ) → i < n → AreOther i (variables_from n cs)
all_behind n [] i l = tt
all_behind n (c ∷ cs) i l = (λ e. omega (arith, l, e), all_behind (n + 1) cs i (omega (arith, l)))

abbrev Lower : ℕ → List Variable → Type 0
Lower n [] = Unit {0}
Lower n (y ∷ ys) = (y.number < n) × Lower n ys

lower_other : (n : ℕ) (ys : List Variable) (i : ℕ) → n ≤ i → Lower n ys → AreOther i ys
lower_other n [] i l w = tt
lower_other n (y ∷ ys) i l w = let first = w.0 in (λ e. omega (arith, l, first, e), lower_other n ys i l w.1)

lower_more : (n : ℕ) (ys : List Variable) → Lower n ys → Lower (n + 1) ys
lower_more n [] w = tt
lower_more n (y ∷ ys) w = let first = w.0 in (omega (arith, first), lower_more n ys w.1)

lower_last : (n : ℕ) (ys : List Variable) (y : Variable) → y.number < n → Lower n ys → Lower n (ys ++ y ∷ [])
lower_last n [] y l w = (l, tt)
lower_last n (z ∷ ys) y l w = (w.0, lower_last n ys y l w.1)

last_before : {X : Type 0} (xs : List X) (y : X) (zs : List X) → xs ++ y ∷ zs ≡ (xs ++ y ∷ []) ++ zs
last_before [] y zs = refl
last_before (x ∷ xs) y zs = ap (λ l. x ∷ l) (last_before xs y zs)

others_both : (i : ℕ) (ys zs : List Variable) → AreOther i ys → AreOther i zs → AreOther i (ys ++ zs)
others_both i [] zs a b = b
others_both i (y ∷ ys) zs a b = (a.0, others_both i ys zs a.1 b)

-- none of those that are chosen is one of the others
apart : (bs : List Bool) (n : ℕ) (cs : List (Cell (List ℕ))) (y : Variable) → Contains (chosen bs (variables_from n cs)) y → AreOther y.number (chosen (map not bs) (variables_from n cs))
apart [] n cs y m = tt
apart (b ∷ bs) n [] y m = tt
apart (true ∷ bs) n (c ∷ cs) y m = elim (Contains-cases (record { number = n; type = c.type; name = c.hint }) (chosen bs (variables_from (n + 1) cs)) y m) [
  | inl e ↦ (let same : n ≡ y.number = ap (λ (v : Variable). v.number) e in others_behind (map not bs) (n + 1) cs y.number (omega (arith, same)))
  | inr k ↦ apart bs (n + 1) cs y k
]
apart (false ∷ bs) n (c ∷ cs) y m = let later = chosen_from bs (n + 1) cs y m in (λ e. omega (arith, later, e), apart bs (n + 1) cs y m)

other_variable : (y : Variable) (z : tree.Variable ℕ) → (y.number ≡ z.name → ⊥) → same_numbered (in_terms y) z ≡ false
other_variable y z n = false_from_ne_true (same_numbered (in_terms y) z) (λ e. n (ap (λ (v : tree.Variable ℕ). v.name) ((same_numbered-Decides (in_terms y) z).0 e)))

others_held : (ys : List Variable) (z : tree.Variable ℕ) → AreOther z.name ys → holds (map in_terms ys) z ≡ false
others_held [] z w = refl
others_held (y ∷ ys) z w = ap (λ b. b || holds (map in_terms ys) z) (other_variable y z w.0) ∙ others_held ys z w.1

others_unput : (ys : List Variable) (ts : List Read) (z : tree.Variable ℕ) → AreOther z.name ys → value_in same_number (put_together (map in_terms ys) ts) z ≡ None
others_unput [] ts z w = refl
others_unput (y ∷ ys) [] z w = refl
others_unput (y ∷ ys) (t ∷ ts) z w = ap (λ b. cond b (Some t) (value_in same_number (put_together (map in_terms ys) ts) z)) (other_variable y z w.0) ∙ others_unput ys ts z w.1

chosen_different : (bs : List Bool) (n : ℕ) (cs : List (Cell (List ℕ))) → AreDifferent (map in_terms (chosen bs (variables_from n cs)))
chosen_different [] n cs = tt
chosen_different (b ∷ bs) n [] = tt
chosen_different (true ∷ bs) n (c ∷ cs) = (
  others_held (chosen bs (variables_from (n + 1) cs)) (record { name = n; type = c.type }) (others_behind bs (n + 1) cs n (omega arith)),
  chosen_different bs (n + 1) cs,
)
chosen_different (false ∷ bs) n (c ∷ cs) = chosen_different bs (n + 1) cs

pub new_different : (n : ℕ) (cs : List (Cell (List ℕ))) → AreDifferent (map in_terms (variables_from n cs))
new_different n [] = tt
new_different n (c ∷ cs) = (others_held (variables_from (n + 1) cs) (record { name = n; type = c.type }) (all_behind (n + 1) cs n (omega arith)), new_different (n + 1) cs)

keyed : (sg : Signature) (ys : List Variable) (ts : List Read) → Each (λ (c : Cell (List ℕ)) t. HasType sg [] t c.type) (map cell_for ys) ts → Each (λ (y : tree.Variable ℕ) t. HasType sg [] t y.type) (map in_terms ys) ts
keyed sg [] [] e = tt
keyed sg [] (t ∷ ts) e = absurd e
keyed sg (y ∷ ys) [] e = absurd e
keyed sg (y ∷ ys) (t ∷ ts) e = (e.0, keyed sg ys ts e.1)

-- VARIABLES for the names: those that are chosen are closed, and the others become these terms
module _ (s : Substitution ℕ (List ℕ)) where
  abbrev Rows : List Bool → List Variable → List Read → Type 0
  Rows [] [] us = Unit {0}
  Rows [] (y ∷ ys) us = ⊥
  Rows (b ∷ bs) [] us = ⊥
  Rows (true ∷ bs) (y ∷ ys) us = (value_in same_number s (in_terms y) ≡ None) × Rows bs ys us
  Rows (false ∷ bs) (y ∷ ys) [] = ⊥
  Rows (false ∷ bs) (y ∷ ys) (u ∷ us) = ((value_in same_number s (in_terms y) ≡ Some u) × IsHinted (codes "x") u) × Rows bs ys us

  rows : (bs : List Bool) (ys : List Variable) (us : List Read) → length bs ≡ length ys → ((y : Variable) → Contains (chosen bs ys) y → value_in same_number s (in_terms y) ≡ None)
      → Each (λ z t. value_in same_number s z ≡ Some t) (map in_terms (chosen (map not bs) ys)) us → AreHinted (codes "x") us → Rows bs ys us
  rows [] [] us e none found hints = tt
  rows [] (y ∷ ys) us e none found hints = absurd (cc)
  rows (b ∷ bs) [] us e none found hints = absurd (cc)
  rows (true ∷ bs) (y ∷ ys) us e none found hints =
      let rest : length bs ≡ length ys = omega (arith, e) in
      (none y (Contains-here y (chosen bs ys)), rows bs ys us rest (λ z m. none z (Contains-there y (chosen bs ys) z m)) found hints)
  rows (false ∷ bs) (y ∷ ys) [] e none found hints = absurd found
  rows (false ∷ bs) (y ∷ ys) (u ∷ us) e none found hints =
      let rest : length bs ≡ length ys = omega (arith, e) in
      ((found.0, hints.0), rows bs ys us rest none found.1 hints.1)

module _ (sg : Signature) (keys : List (tree.Variable ℕ)) (ts : List Read) (typed : IsTyped sg (put_together keys ts)) (hints : AreHinted (codes "x") ts) where
  abbrev s : Substitution ℕ (List ℕ)
  s = put_together keys ts

  stood : (Z front : List Variable) (n : ℕ) (cs : List (Cell (List ℕ))) (bs : List Bool) (us : List Read) → length bs ≡ length cs → Z ≡ front ++ chosen bs (variables_from n cs) → Lower n front → Rows s bs (variables_from n cs) us
      → map (λ t. image same_number s (closed_all Z t)) (own_terms (codes "x") (map in_terms (variables_from n cs))) ≡ stand_ins bs cs us
  stood Z front n [] [] us e z w r = refl
  stood Z front n [] (b ∷ bs) us e z w r = absurd (cc)
  stood Z front n (c ∷ cs) [] us e z w r = absurd (cc)
  stood Z front n (c ∷ cs) (true ∷ bs) us e z w r =
      let y : Variable = record { number = n; type = c.type; name = c.hint } in
      let behind = chosen bs (variables_from (n + 1) cs) in
      let rest : length bs ≡ length cs = omega (arith, e) in
      let its : closed_all Z (own (codes "x") (in_terms y)) ≡ expansion (codes "x") c.type (index (trues bs)) =
      closed-expansion (codes "x") c.type Z (variable (in_terms y))
      ∙ ap (λ l. expansion (codes "x") c.type (closed_head l (variable (in_terms y)))) z
      ∙ ap (expansion (codes "x") c.type) (its_name front y behind (others_behind bs (n + 1) cs n (omega arith)) (lower_other n front n (omega arith) w) ∙ ap index (chosen_length bs (n + 1) cs rest)) in
      ap (λ t. t ∷ map (λ t. image same_number s (closed_all Z t)) (own_terms (codes "x") (map in_terms (variables_from (n + 1) cs))))
      (ap (image same_number s) its ∙ image_by-expansion_of sg ℕ (List ℕ) (value_in same_number s) (map_typed sg same_number s typed) (codes "x") c.type (index (trues bs)) no_terms tt)
      ∙ ap (λ l. expansion (codes "x") c.type (index (trues bs)) ∷ l)
      (stood Z (front ++ y ∷ []) (n + 1) cs bs us rest (z ∙ last_before front y behind) (lower_last (n + 1) front y (omega arith) (lower_more n front w)) r.1)
  stood Z front n (c ∷ cs) (false ∷ bs) [] e z w r = absurd r
  stood Z front n (c ∷ cs) (false ∷ bs) (u ∷ us) e z w r =
      let y : Variable = record { number = n; type = c.type; name = c.hint } in
      let behind = chosen bs (variables_from (n + 1) cs) in
      let rest : length bs ≡ length cs = omega (arith, e) in
      let others : AreOther n (front ++ behind) = others_both n front behind (lower_other n front n (omega arith) w) (others_behind bs (n + 1) cs n (omega arith)) in
      let its : closed_all Z (own (codes "x") (in_terms y)) ≡ own (codes "x") (in_terms y) =
      closed-expansion (codes "x") c.type Z (variable (in_terms y))
      ∙ ap (λ l. expansion (codes "x") c.type (closed_head l (variable (in_terms y)))) z
      ∙ ap (expansion (codes "x") c.type) (others_stay (front ++ behind) (in_terms y) others) in
      ap (λ t. t ∷ map (λ t. image same_number s (closed_all Z t)) (own_terms (codes "x") (map in_terms (variables_from (n + 1) cs))))
      (ap (image same_number s) its ∙ own_put (codes "x") sg keys ts typed hints (in_terms y) u (r.0).1 (r.0).0)
      ∙ ap (λ l. u ∷ l) (stood Z front (n + 1) cs bs us rest z (lower_more n front w) r.1)

from_length : (n : ℕ) (cs : List (Cell (List ℕ))) → length (variables_from n cs) ≡ length cs
from_length n [] = refl
from_length n (c ∷ cs) = ap suc (from_length (n + 1) cs)

-- OF NAMES, with variables from n on, new ones from k on over the constants, and whether each is closed
module _ (sg : Signature) (n k : ℕ) (S : List Nominal) (cs : List (Cell (List ℕ))) (bs : List Bool) (count : length bs ≡ length cs) where
  abbrev pub Closed : List Variable
  Closed = chosen bs (variables_from n cs)

  abbrev pub Own : List Variable
  Own = chosen (map not bs) (variables_from n cs)

  abbrev pub Made : List Read
  Made = made_terms (codes "x") k S (map cell_for Own)

  abbrev pub New : Substitution ℕ (List ℕ)
  New = put_together (map in_terms Own) Made

  abbrev pub Us : List Read
  Us = own_terms (codes "x") (map in_terms (variables_from n cs))

  -- closed, and with new variables
  abbrev pub through : Read → Read
  through t = image same_number New (closed_all Closed t)

  each_typed : Each (λ (y : tree.Variable ℕ) t. HasType sg [] t y.type) (map in_terms Own) Made
  each_typed = keyed sg Own Made (made_terms_typed sg (codes "x") k S (map cell_for Own))

  pub new_typed : IsTyped sg New
  new_typed = together_typed sg (map in_terms Own) Made each_typed

  found : Each (λ z t. value_in same_number New z ≡ Some t) (map in_terms Own) Made
  found = found_each New (map in_terms Own) Made (chosen_different (map not bs) n cs) (λ y h t e. e) (each_any (λ (y : tree.Variable ℕ) t. HasType sg [] t y.type) (map in_terms Own) Made each_typed)

  its_rows : Rows New bs (variables_from n cs) Made
  its_rows = rows New bs (variables_from n cs) Made (count ∙ sym (from_length n cs)) (λ y m. others_unput Own Made (in_terms y) (apart bs n cs y m)) found (made_hinted (codes "x") k S (map cell_for Own))

  pub all_stood : map through Us ≡ stand_ins bs cs Made
  all_stood = stood sg (map in_terms Own) Made new_typed (made_hinted (codes "x") k S (map cell_for Own)) Closed [] n cs bs Made count refl tt its_rows

  -- what holds none of these variables stays
  unclosed : {A : Ty} (t : Read) → HasType sg [] t A → IsBelow n t → closed_all Closed t ≡ t
  unclosed t d below = none_closed Closed t (closed_reach sg d) (λ y m c. let low = below (in_terms y) c in let high = chosen_from bs n cs y m in omega (arith, low, high))

  pub stays : {A : Ty} (t : Read) → HasType sg [] t A → IsBelow n t → through t ≡ t
  stays t d below =
      ap (image same_number New) (unclosed t d below)
      ∙ image_unmoved (value_in same_number New) t (λ y m. others_unput Own Made y (others_behind (map not bs) n cs y.name (below y m)))

  own_taken : (m : ℕ) (es : List (Cell (List ℕ))) → TakeType sg [] (terms_of (own_terms (codes "x") (map in_terms (variables_from m es)))) (arrows (types_of es) o) o
  own_taken m [] = take_none
  own_taken m (c ∷ es) = take_term (expansion_typed sg (codes "x") c.type [] (variable (record { name = m; type = c.type })) refl) (own_taken (m + 1) es)

  pub put_typed : (M : Read) → HasType sg [] M (arrows (types_of cs) o) → HasType sg [] (instance_by_all M Us) o
  put_typed M d = instance_by_all_typed sg Us d (own_taken n cs)

  taken : (m : ℕ) (es : List (Cell (List ℕ))) → TakeType sg (names_above Closed) (terms_of (map (closed_all Closed) (own_terms (codes "x") (map in_terms (variables_from m es))))) (arrows (types_of es) o) o
  taken m [] = take_none
  taken m (c ∷ es) = take_term (closed_all_typed sg Closed (expansion_typed sg (codes "x") c.type [] (variable (record { name = m; type = c.type })) refl)) (taken (m + 1) es)

  -- a closed term in which none that is closed stands
  pub side_in : (A : Read) → HasType sg [] A o → ((y : Variable) → Contains Closed y → ¬ Contains (variables A) (in_terms y)) → image same_number New A ≡ through A
  side_in A d none = ap (image same_number New) (sym (none_closed Closed A (closed_reach sg d) none))

  -- WHAT STANDS UNDER BINDERS for all names, with the variables in their places
  pub stands_in : (M : Read) → IsScope sg n cs M → through (instance_by_all M Us) ≡ instance_by_all M (stand_ins bs cs Made)
  stands_in M w =
      ap (image same_number New) (closed-instances Closed M Us ∙ ap (λ w. instance_by_all w (map (closed_all Closed) Us)) (unclosed M w.0 w.1))
      ∙ image-instances sg same_number New new_typed (map (closed_all Closed) Us) (closed_typed sg (names_above Closed) w.0) (taken n cs)
      ∙ ap (λ w. instance_by_all w (map (image same_number New) (map (closed_all Closed) Us))) (ap (image same_number New) (sym (unclosed M w.0 w.1)) ∙ stays M w.0 w.1)
      ∙ ap (instance_by_all M) (map_then (closed_all Closed) (image same_number New) Us ∙ all_stood)
