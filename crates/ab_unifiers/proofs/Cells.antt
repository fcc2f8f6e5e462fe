-- The cells only grow, by those of the variables that are made; each variable that is left, is replaced or stands in
-- what is put in has its cell's type.
use Rattle.std.proofs.Common.{◌≡◌, inl, inr, ℕ, zero, suc, List, [], ◌∷◌, ◌++◌, map, length, Bool, true, false, cond, not, ◌&&◌, ◌||◌, Option, Some, None, option_map, refl, sym, ◌∙◌, ap, subst, append_assoc}
use Rattle.std.specs.Prelude.{All, slice_get}
use Rattle.std.specs.List.{list_all}
use Rattle.std.proofs.lemmas.Bool.{and_parts, false≢true}
use Rattle.std.proofs.lemmas.List.Elements.{All-cons, All-nil, All-head, All-tail, All-append, All-map, All-weaker}
use Rattle.ab_term.specs.Types.{Ty, kind, arrow}
use Rattle.ab_term.specs.Terms.{Variable, Head, constant, logical, nominal, variable, index, Term, lam, spine, Terms, no_terms, term}
use Rattle.ab_term.specs.Variables.{Substitution, value_in, image, composition}
use Rattle.ab_term.specs.Sameness.{same_numbered, same_head, same_number, same_term}
use Rattle.ab_term.specs.Abstraction.{among, is_name, under, name_terms, abstracted}
use Rattle.ab_term.proofs.Standing.{HeadHas, Has, AllHave, expansion_of_has, has_more, image_by_has}
use Rattle.ab_term.proofs.Stands.{Either, has, has_variables}
use Rattle.ab_term.proofs.ClosingImages.{close_has}
use Rattle.ab_unifiers.specs.Patterns.{pattern, applied, value, kept, kept_type}
use Rattle.ab_unifiers.specs.Replacements.{Cell, Change, without, holds, is_flexible, has_patterns, occurs, no_foreign, made, next_variable, one, narrowed, pruned_names, pruned_here, pruned, pruned_all}
use Rattle.ab_unifiers.specs.Unification.{Equation, State, Answer, unified, apart, stuck, Result, clash, parts, replaced, paired, equal_sides, bodies, rigid_heads, is_older, agreeing, begun, unchanged, put_in, pattern_of, pattern_and_rigid, same_variable_at, one_variable, joined_at, two_at, two_variables, either_way, rule, Found, first_found, found_at, finished, goes_on, carried, next_by, image_of, ending, Solves, at_end, by_step}
use Rattle.ab_unifiers.specs.Unifiers.{given, IsCell, HoldsCells, AllHoldCells}
use Rattle.ab_unifiers.proofs.Falling.{older_holds}
use Rattle.ab_unifiers.proofs.Steps.{OnResult, OnFound, on_or_else, on_cond}
use Rattle.ab_unifiers.proofs.Views.{is_pattern}
use Rattle.ab_unifiers.proofs.Readings.{pattern_distinct}
use Rattle.ab_unifiers.proofs.Avoiding.{not_held, without_held, AreNames}
use Rattle.ab_unifiers.proofs.Ruling.{distinct_names}
use Rattle.ab_unifiers.proofs.Keys.{only_one}

kept_names : (keep : List Bool) (hs : List (Head ℕ)) → AreNames hs → AreNames (kept keep hs)
kept_names [] hs n = tt
kept_names (b ∷ bs) [] n = tt
kept_names (true ∷ bs) (h ∷ hs) n = (n.0, kept_names bs hs n.1)
kept_names (false ∷ bs) (h ∷ hs) n = kept_names bs hs n.1

module _ {Hint : Type 0} where
  -- the second list of cells is the first and more
  abbrev pub Grows : List (Cell Hint) → List (Cell Hint) → Type 0
  Grows cells more = (made : List (Cell Hint)) × (more ≡ cells ++ made)

  pub grows_none : (cells : List (Cell Hint)) → Grows cells cells
  grows_none cells = ([], sym (append-none cells))
    where
      append-none : (cs : List (Cell Hint)) → cs ++ [] ≡ cs
      append-none [] = refl
      append-none (c ∷ cs) = ap (λ l. c ∷ l) (append-none cs)

  pub grows_then : (cells more most : List (Cell Hint)) → Grows cells more → Grows more most → Grows cells most
  grows_then cells more most g h = (g.0 ++ h.0, h.1 ∙ ap (λ l. l ++ h.0) g.1 ∙ append_assoc cells g.0 h.0)

  cell_front : (cells made : List (Cell Hint)) (n : ℕ) (A : Ty) → option_map (λ (c : Cell Hint). c.type) (slice_get cells n) ≡ Some A → option_map (λ (c : Cell Hint). c.type) (slice_get (cells ++ made) n) ≡ Some A
  cell_front [] made n A e = absurd (cc)
  cell_front (c ∷ cells) made zero A e = e
  cell_front (c ∷ cells) made (suc n) A e = cell_front cells made n A e

  pub cell_kept : (cells more : List (Cell Hint)) → Grows cells more → (y : Variable ℕ) → IsCell cells y → IsCell more y
  cell_kept cells more g y e = subst (λ l. IsCell l y) (sym g.1) (cell_front cells g.0 y.name y.type e)

  last_cell : (cells : List (Cell Hint)) (c : Cell Hint) → slice_get (cells ++ c ∷ []) (length cells) ≡ Some c
  last_cell [] c = refl
  last_cell (d ∷ cells) c = last_cell cells c

  -- a term all of whose variables are cells
  abbrev pub OverCells : List (Cell Hint) → Head ℕ → Type 0
  OverCells cells = Either (λ a. Unit {0}) (IsCell cells)

  over_kept : (cells more : List (Cell Hint)) → Grows cells more → (h : Head ℕ) → HeadHas (OverCells cells) h → HeadHas (OverCells more) h
  over_kept cells more g (constant c) p = tt
  over_kept cells more g (logical l) p = tt
  over_kept cells more g (nominal a) p = tt
  over_kept cells more g (variable y) p = cell_kept cells more g y p
  over_kept cells more g (index i) p = tt

  term_kept : (cells more : List (Cell Hint)) → Grows cells more → (t : Term ℕ Hint) → Has (OverCells cells) t → Has (OverCells more) t
  term_kept cells more g t p = has_more (OverCells cells) (OverCells more) (over_kept cells more g) t p

  -- pairs of cells and terms over cells
  abbrev pub Fits : List (Cell Hint) → Variable ℕ × Term ℕ Hint → Type 0
  Fits cells p = IsCell cells p.0 × Has (OverCells cells) p.1

  fits_kept : (cells more : List (Cell Hint)) → Grows cells more → (s : Substitution ℕ Hint) → All (Fits cells) s → All (Fits more) s
  fits_kept cells more g s all = All-weaker (Fits cells) (Fits more) (λ p f. (cell_kept cells more g p.0 f.0, term_kept cells more g p.1 f.1)) s all

  value_over : (cells : List (Cell Hint)) (s : Substitution ℕ Hint) → All (Fits cells) s → (y : Variable ℕ) (u : Term ℕ Hint) → value_in same_number s y ≡ Some u → Has (OverCells cells) u
  value_over cells [] all y u e = absurd (cc)
  value_over cells (p ∷ s) all y u e = go (same_numbered p.0 y) e (value_over cells s (All-tail (Fits cells) p s all) y u)
    where
      go : (b : Bool) → cond b (Some p.1) (value_in same_number s y) ≡ Some u → (value_in same_number s y ≡ Some u → Has (OverCells cells) u) → Has (OverCells cells) u
      go true e rest = let equal : p.1 ≡ u = cc in subst (Has (OverCells cells)) equal (All-head (Fits cells) p s all).1
      go false e rest = rest e

  pub image_over : (cells : List (Cell Hint)) (s : Substitution ℕ Hint) → All (Fits cells) s → (t : Term ℕ Hint) → Has (OverCells cells) t → Has (OverCells cells) (image same_number s t)
  image_over cells s all t p =
      image_by_has (OverCells cells) (OverCells cells) (value_in same_number s)
      (record { constants = λ c q. tt; logicals = λ l q. tt; nominals = λ a q. tt; stays = λ y e q. q; values = λ y u e q. value_over cells s all y u e }) t p

  composed_fits : (cells : List (Cell Hint)) (s r : Substitution ℕ Hint) → All (Fits cells) s → All (Fits cells) r → All (Fits cells) (composition same_number s r)
  composed_fits cells s r a b =
      All-append (Fits cells) (map (λ p. (p.0, image same_number r p.1)) s) r
      (All-map (Fits cells) (λ p. (p.0, image same_number r p.1)) s (All-weaker (Fits cells) (λ p. Fits cells (p.0, image same_number r p.1)) (λ p f. (f.0, image_over cells r b p.1 f.1)) s a))
      b

  -- what is put in
  name_over : (cells : List (Cell Hint)) (h : Head ℕ) → is_name h ≡ true → HeadHas (OverCells cells) h
  name_over cells (constant c) e = tt
  name_over cells (logical l) e = tt
  name_over cells (nominal a) e = tt
  name_over cells (variable y) e = absurd (false≢true e)
  name_over cells (index i) e = tt

  names_over : (cells : List (Cell Hint)) (x : Hint) (A : Ty) (hs : List (Head ℕ)) → AreNames hs → AllHave (OverCells cells) (name_terms x A hs)
  names_over cells x A [] n = tt
  names_over cells x (kind c) (h ∷ hs) n = tt
  names_over cells x (arrow A B) (h ∷ hs) n = (expansion_of_has (OverCells cells) x A h no_terms (name_over cells h n.0) tt, names_over cells x B hs n.1)

  applied_over : (cells : List (Cell Hint)) (x : Hint) (z : Variable ℕ) (hs : List (Head ℕ)) → IsCell cells z → AreNames hs → Has (OverCells cells) (applied x z hs)
  applied_over cells x z hs c n = (c, names_over cells x z.type hs n)

  abstracted_over : (cells : List (Cell Hint)) (x : Hint) (A : Ty) (hs : List (Head ℕ)) (t : Term ℕ Hint) → Has (OverCells cells) t → Has (OverCells cells) (abstracted x A hs t)
  abstracted_over cells x A [] t p = p
  abstracted_over cells x (kind k) (h ∷ hs) t p = p
  abstracted_over cells x (arrow A B) (h ∷ hs) t p = close_has (OverCells cells) (OverCells cells) zero h (λ g e q. q) (abstracted x B hs t) (abstracted_over cells x B hs t p)

  one_fits : (cells : List (Cell Hint)) (x : Hint) (y : Variable ℕ) (names : List (Head ℕ)) (t : Term ℕ Hint) → IsCell cells y → Has (OverCells cells) t → All (Fits cells) (one x y names t)
  one_fits cells x y names t c p = All-cons (Fits cells) (y, value x y names t) [] (c, abstracted_over cells x y.type names t p) (All-nil (Fits cells))

  pattern_names : (A : Ty) (ts : Terms ℕ Hint) (hs : List (Head ℕ)) → pattern A ts ≡ Some hs → AreNames hs
  pattern_names A ts hs e = distinct_names hs (pattern_distinct (is_pattern A ts hs e))

  -- the listed variables are cells
  abbrev pub AreCells : List (Cell Hint) → List (Variable ℕ) → Type 0
  AreCells cells ys = (y : Variable ℕ) → holds ys y ≡ true → IsCell cells y

  -- A CHANGE since there were these cells
  pub record CellsFit (cells : List (Cell Hint)) (c : Change Hint) : Type 0 where
    pub grows : Grows cells c.cells
    pub left : AreCells c.cells c.flexible
    pub pairs : All (Fits c.cells) c.pairs

module _ {Hint : Type 0} (x : Hint) (cells : List (Cell Hint)) where
  pub narrowed_cells : (y : Variable ℕ) (names : List (Head ℕ)) (keep : List Bool) (c : Change Hint) → holds c.flexible y ≡ true → AreNames names → CellsFit cells c → CellsFit cells (narrowed x y names keep c)
  narrowed_cells y names keep c h n f =
      let cell = made x c.cells y (kept_type keep y.type) in
      let w = next_variable x c.cells (kept_type keep y.type) in
      let all = c.cells ++ cell ∷ [] in
      let more : Grows c.cells all = (cell ∷ [], refl) in
      let new : IsCell all w = ap (option_map (λ (d : Cell Hint). d.type)) (last_cell c.cells cell) in
      record {
        grows = grows_then cells c.cells all f.grows more;
        left = λ v e. elim (not_held (without y c.flexible) (w ∷ []) v e) [ inl a ↦ cell_kept c.cells all more v (f.left v (without_held y c.flexible v a)) | inr a ↦ subst (IsCell all) (only_one w v a) new ];
        pairs = composed_fits all c.pairs (one x y names (applied x w (kept keep names))) (fits_kept c.cells all more c.pairs f.pairs)
            (one_fits all x y names (applied x w (kept keep names)) (cell_kept c.cells all more y (f.left y h)) (applied_over all x w (kept keep names) new (kept_names keep names n)));
      }

  names_cells : (names : List (Head ℕ)) (y : Variable ℕ) (o : Option (List (Head ℕ))) (c : Change Hint) → holds c.flexible y ≡ true → ((hs : List (Head ℕ)) → o ≡ Some hs → AreNames hs) → CellsFit cells c → CellsFit cells (pruned_names x names y o c)
  names_cells names y None c h n f = f
  names_cells names y (Some bs) c h n f = go (list_all (among names) bs)
    where
      go : (b : Bool) → CellsFit cells (cond b c (narrowed x y bs (map (among names) bs) c))
      go true = f
      go false = narrowed_cells y bs (map (among names) bs) c h (n bs refl) f

  here_cells : (names : List (Head ℕ)) (t : Term ℕ Hint) (c : Change Hint) → CellsFit cells c → CellsFit cells (pruned_here x names t c)
  here_cells names (spine (variable y) ts) c f = go (holds c.flexible y) refl
    where
      go : (b : Bool) → holds c.flexible y ≡ b → CellsFit cells (cond b (pruned_names x names y (pattern y.type ts) c) c)
      go true h = names_cells names y (pattern y.type ts) c h (λ hs e. pattern_names y.type ts hs e) f
      go false h = f
  here_cells names (spine (constant d) ts) c f = f
  here_cells names (spine (logical d) ts) c f = f
  here_cells names (spine (nominal d) ts) c f = f
  here_cells names (spine (index d) ts) c f = f
  here_cells names (lam A y t) c f = f

  mutual
    pruned_cells : (vs : List (Variable ℕ)) (names : List (Head ℕ)) (t : Term ℕ Hint) (c : Change Hint) → CellsFit cells c → CellsFit cells (pruned x vs names t c)
    pruned_cells vs names (lam A y t) c f = pruned_cells vs (under names) t c f
    pruned_cells vs names (spine h ts) c f = go (is_flexible vs h) (pruned_all_cells vs names ts c f)
      where
        go : (b : Bool) → CellsFit cells (pruned_all x vs names ts c) → CellsFit cells (cond b (pruned_here x names (image same_number c.pairs (spine h ts)) c) (pruned_all x vs names ts c))
        go true rest = here_cells names (image same_number c.pairs (spine h ts)) c f
        go false rest = rest

    pruned_all_cells : (vs : List (Variable ℕ)) (names : List (Head ℕ)) (ts : Terms ℕ Hint) (c : Change Hint) → CellsFit cells c → CellsFit cells (pruned_all x vs names ts c)
    pruned_all_cells vs names no_terms c f = f
    pruned_all_cells vs names (term t ts) c f = pruned_all_cells vs names ts (pruned x vs names t c) (pruned_cells vs names t c f)

-- the terms of equations
module _ {Hint : Type 0} where
  abbrev pub AllOver : List (Cell Hint) → List (Equation Hint) → Type 0
  AllOver cells [] = Unit {0}
  AllOver cells (e ∷ es) = Has (OverCells cells) e.left × Has (OverCells cells) e.right × AllOver cells es

  over_both : (cells : List (Cell Hint)) (es fs : List (Equation Hint)) → AllOver cells es → AllOver cells fs → AllOver cells (es ++ fs)
  over_both cells [] fs a b = b
  over_both cells (e ∷ es) fs a b = (a.0, a.1, over_both cells es fs a.2 b)

  over_images : (cells more : List (Cell Hint)) → Grows cells more → (s : Substitution ℕ Hint) → All (Fits more) s → (es : List (Equation Hint)) → AllOver cells es → AllOver more (map (image_of s) es)
  over_images cells more g s f [] a = tt
  over_images cells more g s f (e ∷ es) a = (image_over more s f e.left (term_kept cells more g e.left a.0), image_over more s f e.right (term_kept cells more g e.right a.1), over_images cells more g s f es a.2)

  paired_over : (cells : List (Cell Hint)) (p : ℕ) (ts us : Terms ℕ Hint) → AllHave (OverCells cells) ts → AllHave (OverCells cells) us → AllOver cells (paired p ts us)
  paired_over cells p no_terms us a b = tt
  paired_over cells p (term t ts) no_terms a b = tt
  paired_over cells p (term t ts) (term u us) a b = (a.0, b.0, paired_over cells p ts us a.1 b.1)

module _ {Hint : Type 0} (x : Hint) (cells : List (Cell Hint)) (ys : List (Variable ℕ)) (flexible : AreCells cells ys) where
  abbrev Fine : Result Hint → Type 0
  Fine clash = Unit {0}
  Fine (parts es) = AllOver cells es
  Fine (replaced c) = CellsFit cells c

  begun_cells : (y : Variable ℕ) → CellsFit cells (begun x cells ys y)
  begun_cells y = record { grows = grows_none cells; left = λ v e. flexible v (without_held y ys v e); pairs = All-nil (Fits cells) }

  put_cells : (y : Variable ℕ) (names : List (Head ℕ)) (t : Term ℕ Hint) (c : Change Hint) → IsCell cells y → Has (OverCells cells) t → CellsFit cells c → CellsFit cells (put_in x cells ys y names t c)
  put_cells y names t c h p f = record {
    grows = f.grows;
    left = f.left;
    pairs = composed_fits c.cells c.pairs (one x y names (image same_number c.pairs t)) f.pairs
        (one_fits c.cells x y names (image same_number c.pairs t) (cell_kept cells c.cells f.grows y h) (image_over c.cells c.pairs f.pairs t (term_kept cells c.cells f.grows t p)));
  }

  joined_cells : (y : Variable ℕ) (names : List (Head ℕ)) (z : Variable ℕ) (others : List (Head ℕ)) → holds ys y ≡ true → holds ys z ≡ true → AreNames names → CellsFit cells (joined_at x cells ys y names z others)
  joined_cells y names z others hy hz n =
      let keep = map (among others) names in
      let cell = made x cells y (kept_type keep y.type) in
      let w = next_variable x cells (kept_type keep y.type) in
      let all = cells ++ cell ∷ [] in
      let more : Grows cells all = (cell ∷ [], refl) in
      let new : IsCell all w = ap (option_map (λ (d : Cell Hint). d.type)) (last_cell cells cell) in
      let common = applied x w (kept keep names) in
      let over = applied_over all x w (kept keep names) new (kept_names keep names n) in
      record {
        grows = more;
        left = λ v e. elim (not_held (without z (without y ys)) (w ∷ []) v e) [ inl a ↦ cell_kept cells all more v (flexible v (without_held y ys v (without_held z (without y ys) v a))) | inr a ↦ subst (IsCell all) (only_one w v a) new ];
        pairs = All-append (Fits all) (one x y names common) (one x z others common)
            (one_fits all x y names common (cell_kept cells all more y (flexible y hy)) over)
            (one_fits all x z others common (cell_kept cells all more z (flexible z hz)) over);
      }

  pattern_of_cells : (y : Variable ℕ) (t : Term ℕ Hint) (o : Option (List (Head ℕ))) → holds ys y ≡ true → Has (OverCells cells) t → OnResult Fine (pattern_of x cells ys y t o)
  pattern_of_cells y t None h p = tt
  pattern_of_cells y t (Some names) h p =
      on_cond Fine (has_patterns ys t) (Some (cond (occurs y t || not (no_foreign ys names t)) clash (replaced (put_in x cells ys y names t (pruned x ys names t (begun x cells ys y)))))) None (λ e. go (occurs y t || not (no_foreign ys names t))) (λ e. tt)
    where
      go : (b : Bool) → Fine (cond b clash (replaced (put_in x cells ys y names t (pruned x ys names t (begun x cells ys y)))))
      go true = tt
      go false = put_cells y names t (pruned x ys names t (begun x cells ys y)) (flexible y h) p (pruned_cells x cells ys names t (begun x cells ys y) (begun_cells y))

  rigid_cells : (t u : Term ℕ Hint) → Has (OverCells cells) u → OnResult Fine (pattern_and_rigid x cells ys t u)
  rigid_cells (spine (variable y) ts) (spine h us) p =
      on_cond Fine (holds ys y && not (is_flexible ys h)) (pattern_of x cells ys y (spine h us) (pattern y.type ts)) None
      (λ e. pattern_of_cells y (spine h us) (pattern y.type ts) ((and_parts (holds ys y) (not (is_flexible ys h)) e).0) p) (λ e. tt)
  rigid_cells (spine (variable y) ts) (lam A z u) p = tt
  rigid_cells (spine (constant c) ts) u p = tt
  rigid_cells (spine (logical l) ts) u p = tt
  rigid_cells (spine (nominal a) ts) u p = tt
  rigid_cells (spine (index i) ts) u p = tt
  rigid_cells (lam A z t) u p = tt

  one_at_cells : (y : Variable ℕ) (o q : Option (List (Head ℕ))) → holds ys y ≡ true → ((hs : List (Head ℕ)) → o ≡ Some hs → AreNames hs) → OnResult Fine (same_variable_at x cells ys y o q)
  one_at_cells y None q h n = tt
  one_at_cells y (Some names) None h n = tt
  one_at_cells y (Some names) (Some others) h n =
      narrowed_cells x cells y names (agreeing names others) (unchanged x cells ys) h (n names refl) (record { grows = grows_none cells; left = flexible; pairs = All-nil (Fits cells) })

  one_cells : (t u : Term ℕ Hint) → OnResult Fine (one_variable x cells ys t u)
  one_cells (spine (variable y) ts) (spine (variable z) us) =
      on_cond Fine (holds ys y && same_numbered y z) (same_variable_at x cells ys y (pattern y.type ts) (pattern z.type us)) None
      (λ e. one_at_cells y (pattern y.type ts) (pattern z.type us) ((and_parts (holds ys y) (same_numbered y z) e).0) (λ hs q. pattern_names y.type ts hs q)) (λ e. tt)
  one_cells (spine (variable y) ts) (spine (constant c) us) = tt
  one_cells (spine (variable y) ts) (spine (logical c) us) = tt
  one_cells (spine (variable y) ts) (spine (nominal c) us) = tt
  one_cells (spine (variable y) ts) (spine (index c) us) = tt
  one_cells (spine (variable y) ts) (lam A z u) = tt
  one_cells (spine (constant c) ts) u = tt
  one_cells (spine (logical l) ts) u = tt
  one_cells (spine (nominal a) ts) u = tt
  one_cells (spine (index i) ts) u = tt
  one_cells (lam A z t) u = tt

  two_at_cells : (y z : Variable ℕ) (o q : Option (List (Head ℕ))) → holds ys z ≡ true → holds ys y ≡ true → ((hs : List (Head ℕ)) → o ≡ Some hs → AreNames hs) → ((hs : List (Head ℕ)) → q ≡ Some hs → AreNames hs) → OnResult Fine (two_at x cells ys y o z q)
  two_at_cells y z None q hz hy n m = tt
  two_at_cells y z (Some names) None hz hy n m = tt
  two_at_cells y z (Some names) (Some others) hz hy n m = go (list_all (among others) names) (list_all (among names) others)
    where
      go : (b c : Bool) → CellsFit cells (cond b (put_in x cells ys z others (applied x y names) (begun x cells ys z)) (cond c (put_in x cells ys y names (applied x z others) (begun x cells ys y)) (joined_at x cells ys y names z others)))
      go true c = put_cells z others (applied x y names) (begun x cells ys z) (flexible z hz) (applied_over cells x y names (flexible y hy) (n names refl)) (begun_cells z)
      go false true = put_cells y names (applied x z others) (begun x cells ys y) (flexible y hy) (applied_over cells x z others (flexible z hz) (m others refl)) (begun_cells y)
      go false false = joined_cells y names z others hy hz (n names refl)

  two_cells : (t u : Term ℕ Hint) → OnResult Fine (two_variables x cells ys t u)
  two_cells (spine (variable y) ts) (spine (variable z) us) =
      on_cond Fine (holds ys z && is_older ys y z) (two_at x cells ys y (pattern y.type ts) z (pattern z.type us)) None
      (λ e.
      let parts = and_parts (holds ys z) (is_older ys y z) e in
      two_at_cells y z (pattern y.type ts) (pattern z.type us) parts.0 (older_holds ys y z parts.1).0 (λ hs q. pattern_names y.type ts hs q) (λ hs q. pattern_names z.type us hs q))
      (λ e. tt)
  two_cells (spine (variable y) ts) (spine (constant c) us) = tt
  two_cells (spine (variable y) ts) (spine (logical c) us) = tt
  two_cells (spine (variable y) ts) (spine (nominal c) us) = tt
  two_cells (spine (variable y) ts) (spine (index c) us) = tt
  two_cells (spine (variable y) ts) (lam A z u) = tt
  two_cells (spine (constant c) ts) u = tt
  two_cells (spine (logical l) ts) u = tt
  two_cells (spine (nominal a) ts) u = tt
  two_cells (spine (index i) ts) u = tt
  two_cells (lam A z t) u = tt

  bodies_cells : (p : ℕ) (t u : Term ℕ Hint) → Has (OverCells cells) t → Has (OverCells cells) u → OnResult Fine (bodies p t u)
  bodies_cells p (lam A x t) (lam B y u) a b = (a, b, tt)
  bodies_cells p (lam A x t) (spine h us) a b = tt
  bodies_cells p (spine h ts) u a b = tt

  heads_cells : (p : ℕ) (t u : Term ℕ Hint) → Has (OverCells cells) t → Has (OverCells cells) u → OnResult Fine (rigid_heads ys p t u)
  heads_cells p (lam A x t) u a b = tt
  heads_cells p (spine g ts) (lam B y u) a b = tt
  heads_cells p (spine g ts) (spine h us) a b =
      on_cond Fine (is_flexible ys g || is_flexible ys h) None (Some (cond (same_head g h) (parts (paired p ts us)) clash)) (λ e. tt) (λ e. go (same_head g h))
    where
      go : (b : Bool) → Fine (cond b (parts (paired p ts us)) clash)
      go true = paired_over cells p ts us a.1 b.1
      go false = tt

  rule_cells : (e : Equation Hint) → Has (OverCells cells) e.left → Has (OverCells cells) e.right → OnResult Fine (rule x cells ys e)
  rule_cells e a b =
      on_or_else Fine (equal_sides e) _ (on_cond Fine (same_term e.left e.right) (Some (parts [])) None (λ f. tt) (λ f. tt))
      (on_or_else Fine (bodies e.place e.left e.right) _ (bodies_cells e.place e.left e.right a b)
      (on_or_else Fine (rigid_heads ys e.place e.left e.right) _ (heads_cells e.place e.left e.right a b)
      (on_or_else Fine (either_way x cells ys (pattern_and_rigid x cells ys) e) _
      (on_or_else Fine (pattern_and_rigid x cells ys e.left e.right) (pattern_and_rigid x cells ys e.right e.left) (rigid_cells e.left e.right b) (rigid_cells e.right e.left a))
      (on_or_else Fine (one_variable x cells ys e.left e.right) _ (one_cells e.left e.right)
      (on_or_else Fine (two_variables x cells ys e.left e.right) (two_variables x cells ys e.right e.left) (two_cells e.left e.right) (two_cells e.right e.left))))))

  record FoundCells (f : Found Hint) : Type 0 where
    pub fine : Fine f.result
    pub before : AllOver cells f.before
    pub behind : AllOver cells f.behind

  found_cells : (e : Equation Hint) (es : List (Equation Hint)) (r : Option (Result Hint)) (o : Option (Found Hint)) → AllOver cells (e ∷ es) → OnResult Fine r → OnFound x cells ys FoundCells o → OnFound x cells ys FoundCells (found_at e es r o)
  found_cells e es None None d a b = tt
  found_cells e es None (Some f) d a b = record { fine = b.fine; before = (d.0, d.1, b.before); behind = b.behind }
  found_cells e es (Some r) o d a b = record { fine = a; before = tt; behind = d.2 }

  first_cells : (es : List (Equation Hint)) → AllOver cells es → OnFound x cells ys FoundCells (first_found (rule x cells ys) es)
  first_cells [] d = tt
  first_cells (e ∷ es) d = found_cells e es (rule x cells ys e) (first_found (rule x cells ys) es) d (rule_cells e d.0 d.1) (first_cells es d.2)

module _ {Hint : Type 0} (x : Hint) (cells : List (Cell Hint)) where
  -- A STATE since there were these cells
  record StateCells (s : State Hint) : Type 0 where
    pub grows : Grows cells s.cells
    pub equations : AllOver s.cells s.equations
    pub left : AreCells s.cells s.flexible
    pub pairs : All (Fits s.cells) s.pairs

  carried_cells : (s q : State Hint) (k : StateCells s) (f : Found Hint) → FoundCells x s.cells s.flexible k.left f → (r : Result Hint) → Fine x s.cells s.flexible k.left r → carried s f r ≡ goes_on q → StateCells q
  carried_cells s q k f h clash g e = absurd (let both : finished apart ≡ goes_on q = e in cc)
  carried_cells s q k f h (parts es) g e = moved (record { equations = f.before ++ es ++ f.behind; cells = s.cells; flexible = s.flexible; pairs = s.pairs }) e
      (record { grows = k.grows; equations = over_both s.cells (f.before ++ es) f.behind (over_both s.cells f.before es h.before g) h.behind; left = k.left; pairs = k.pairs })
    where
      moved : (m : State Hint) → goes_on m ≡ goes_on q → StateCells m → StateCells q
      moved m e l = let equal : m ≡ q = cc in subst StateCells equal l
  carried_cells s q k f h (replaced c) g e = moved (record { equations = map (image_of c.pairs) (f.before ++ f.behind); cells = c.cells; flexible = c.flexible; pairs = composition same_number s.pairs c.pairs }) e
      (record {
        grows = grows_then cells s.cells c.cells k.grows g.grows;
        equations = over_images s.cells c.cells g.grows c.pairs g.pairs (f.before ++ f.behind) (over_both s.cells f.before f.behind h.before h.behind);
        left = g.left;
        pairs = composed_fits c.cells s.pairs c.pairs (fits_kept s.cells c.cells g.grows s.pairs k.pairs) g.pairs;
      })
    where
      moved : (m : State Hint) → goes_on m ≡ goes_on q → StateCells m → StateCells q
      moved m e l = let equal : m ≡ q = cc in subst StateCells equal l

  next_cells : (s q : State Hint) (k : StateCells s) (o : Option (Found Hint)) → OnFound x s.cells s.flexible (FoundCells x s.cells s.flexible k.left) o → next_by s o ≡ goes_on q → StateCells q
  next_cells s q k None h e = absurd (let both : finished (ending s s.equations) ≡ goes_on q = e in cc)
  next_cells s q k (Some f) h e = carried_cells s q k f h f.result h.fine e

  abbrev CellsOf : Answer Hint → Type 0
  CellsOf (unified more r) = Grows cells more × All (Fits more) r
  CellsOf apart = Unit {0}
  CellsOf (stuck i) = Unit {0}

  ending_cells : (s : State Hint) → StateCells s → (es : List (Equation Hint)) → CellsOf (ending s es)
  ending_cells s k [] = (k.grows, k.pairs)
  ending_cells s k (e ∷ es) = tt

  end_cells : (s : State Hint) (k : StateCells s) (a : Answer Hint) (o : Option (Found Hint)) → next_by s o ≡ finished a → CellsOf a
  end_cells s k a None e = let equal : ending s s.equations ≡ a = cc in subst CellsOf equal (ending_cells s k s.equations)
  end_cells s k a (Some f) e = go f.result e
    where
      go : (r : Result Hint) → carried s f r ≡ finished a → CellsOf a
      go clash e = let equal : apart ≡ a = cc in subst CellsOf equal tt
      go (parts es) e = absurd (cc)
      go (replaced c) e = absurd (cc)

  all_cells : (s : State Hint) (a : Answer Hint) → StateCells s → Solves x s a → CellsOf a
  all_cells s a k (at_end e) = end_cells s k a (first_found (rule x s.cells s.flexible) s.equations) e
  all_cells s a k (by_step {r = r} e q) = all_cells r a (next_cells s r k (first_found (rule x s.cells s.flexible) s.equations) (first_cells x s.cells s.flexible k.left s.equations k.equations) e) q

module _ {Hint : Type 0} (x : Hint) (es : List (Equation Hint)) (cells : List (Cell Hint)) (ys : List (Variable ℕ)) (flexible : AreCells cells ys) (over : AllHoldCells cells es) where
  start_over : (fs : List (Equation Hint)) → AllHoldCells cells fs → AllOver cells fs
  start_over [] o = tt
  start_over (e ∷ fs) o = (has (λ a. Unit {0}) (IsCell cells) e.left (λ a m. tt) o.0, has (λ a. Unit {0}) (IsCell cells) e.right (λ a m. tt) o.1, start_over fs o.2)

  -- THE ANSWER'S VARIABLES ARE CELLS
  pub answer_cells : (more : List (Cell Hint)) (s : Substitution ℕ Hint) → Solves x (given es cells ys) (unified more s) → Grows cells more × All (λ p. IsCell more p.0 × HoldsCells more p.1) s
  answer_cells more s p =
      let r = all_cells x cells (given es cells ys) (unified more s) (record { grows = grows_none cells; equations = start_over es over; left = flexible; pairs = All-nil (Fits cells) }) p in
      (r.0, All-weaker (Fits more) (λ p. IsCell more p.0 × HoldsCells more p.1) (λ p f. (f.0, λ y m. has_variables (λ a. Unit {0}) (IsCell more) p.1 f.1 y m)) s r.1)
