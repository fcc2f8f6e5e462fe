-- Lists merged into rows by the order of their sorts.
use Rattle.std.proofs.Common.{◌≡◌, ℕ, suc, ◌<◌, List, [], ◌∷◌, ◌++◌, length, Option, Some, None, IsSome, ◌↔◌, option_to_list, refl, sym, ◌∙◌, ap, subst, subst₂, arith, true≢false}
use Rattle.ab_types.specs.declared.ids.TypeView.{TypeView}
use Rattle.ab_types.specs.declared.columns.Sort.{Sort}
use Rattle.ab_types.specs.declared.columns.Sort.TheVariants.{Kind, Ty, Constant}
use Rattle.ab_types.specs.Layout.{Kept, Row, kind_row, type_row, constant_row, rows, Fits, AddsRow}
use Rattle.ab_types.proofs.Rows.{kind_rows, type_rows, constant_rows}

pub length-rows : (ss : List Sort) (ks : List (List ℕ)) (vs : List TypeView) (cs : List Kept) → Fits ss ks vs cs → length (rows ss ks vs cs) ≡ length ss
length-rows [] ks vs cs f = refl
length-rows (Kind ∷ ss) [] vs cs f = absurd f
length-rows (Kind ∷ ss) (k ∷ ks) vs cs f = ap suc (length-rows ss ks vs cs f)
length-rows (Ty ∷ ss) ks [] cs f = absurd f
length-rows (Ty ∷ ss) ks (v ∷ vs) cs f = ap suc (length-rows ss ks vs cs f)
length-rows (Constant ∷ ss) ks vs [] f = absurd f
length-rows (Constant ∷ ss) ks vs (c ∷ cs) f = ap suc (length-rows ss ks vs cs f)

pub kind_rows-rows : (ss : List Sort) (ks : List (List ℕ)) (vs : List TypeView) (cs : List Kept) → Fits ss ks vs cs → kind_rows (rows ss ks vs cs) ≡ ks
kind_rows-rows [] ks vs cs f = sym f.0
kind_rows-rows (Kind ∷ ss) [] vs cs f = absurd f
kind_rows-rows (Kind ∷ ss) (k ∷ ks) vs cs f = ap (λ l. k ∷ l) (kind_rows-rows ss ks vs cs f)
kind_rows-rows (Ty ∷ ss) ks [] cs f = absurd f
kind_rows-rows (Ty ∷ ss) ks (v ∷ vs) cs f = kind_rows-rows ss ks vs cs f
kind_rows-rows (Constant ∷ ss) ks vs [] f = absurd f
kind_rows-rows (Constant ∷ ss) ks vs (c ∷ cs) f = kind_rows-rows ss ks vs cs f

pub type_rows-rows : (ss : List Sort) (ks : List (List ℕ)) (vs : List TypeView) (cs : List Kept) → Fits ss ks vs cs → type_rows (rows ss ks vs cs) ≡ vs
type_rows-rows [] ks vs cs f = sym f.1
type_rows-rows (Kind ∷ ss) [] vs cs f = absurd f
type_rows-rows (Kind ∷ ss) (k ∷ ks) vs cs f = type_rows-rows ss ks vs cs f
type_rows-rows (Ty ∷ ss) ks [] cs f = absurd f
type_rows-rows (Ty ∷ ss) ks (v ∷ vs) cs f = ap (λ l. v ∷ l) (type_rows-rows ss ks vs cs f)
type_rows-rows (Constant ∷ ss) ks vs [] f = absurd f
type_rows-rows (Constant ∷ ss) ks vs (c ∷ cs) f = type_rows-rows ss ks vs cs f

pub constant_rows-rows : (ss : List Sort) (ks : List (List ℕ)) (vs : List TypeView) (cs : List Kept) → Fits ss ks vs cs → constant_rows (rows ss ks vs cs) ≡ cs
constant_rows-rows [] ks vs cs f = sym f.2
constant_rows-rows (Kind ∷ ss) [] vs cs f = absurd f
constant_rows-rows (Kind ∷ ss) (k ∷ ks) vs cs f = constant_rows-rows ss ks vs cs f
constant_rows-rows (Ty ∷ ss) ks [] cs f = absurd f
constant_rows-rows (Ty ∷ ss) ks (v ∷ vs) cs f = constant_rows-rows ss ks vs cs f
constant_rows-rows (Constant ∷ ss) ks vs [] f = absurd f
constant_rows-rows (Constant ∷ ss) ks vs (c ∷ cs) f = ap (λ l. c ∷ l) (constant_rows-rows ss ks vs cs f)

-- the last row

pub record PutsRow (ss : List Sort) (ks : List (List ℕ)) (vs : List TypeView) (cs : List Kept) (ss2 : List Sort) (ks2 : List (List ℕ)) (vs2 : List TypeView) (cs2 : List Kept) (r : Row) : Type 0 where
  pub fits : Fits ss2 ks2 vs2 cs2
  pub rows_are : rows ss2 ks2 vs2 cs2 ≡ rows ss ks vs cs ++ r ∷ []

pub put_kind : (ss : List Sort) (ks : List (List ℕ)) (vs : List TypeView) (cs : List Kept) (k : List ℕ) → Fits ss ks vs cs
    → PutsRow ss ks vs cs (ss ++ Kind ∷ []) (ks ++ k ∷ []) vs cs (kind_row k)
put_kind [] [] vs cs k f = record { fits = (refl, f.1, f.2); rows_are = refl }
put_kind [] (l ∷ ks) vs cs k f = absurd (none f.0)
  where
    none : l ∷ ks ≡ [] → ⊥
    none e = cc
put_kind (Kind ∷ ss) [] vs cs k f = absurd f
put_kind (Kind ∷ ss) (l ∷ ks) vs cs k f =
    let p = put_kind ss ks vs cs k f in
    record { fits = p.fits; rows_are = ap (λ rs. kind_row l ∷ rs) p.rows_are }
put_kind (Ty ∷ ss) ks [] cs k f = absurd f
put_kind (Ty ∷ ss) ks (v ∷ vs) cs k f =
    let p = put_kind ss ks vs cs k f in
    record { fits = p.fits; rows_are = ap (λ rs. type_row v ∷ rs) p.rows_are }
put_kind (Constant ∷ ss) ks vs [] k f = absurd f
put_kind (Constant ∷ ss) ks vs (c ∷ cs) k f =
    let p = put_kind ss ks vs cs k f in
    record { fits = p.fits; rows_are = ap (λ rs. constant_row c ∷ rs) p.rows_are }

pub put_type : (ss : List Sort) (ks : List (List ℕ)) (vs : List TypeView) (cs : List Kept) (w : TypeView) → Fits ss ks vs cs
    → PutsRow ss ks vs cs (ss ++ Ty ∷ []) ks (vs ++ w ∷ []) cs (type_row w)
put_type [] ks [] cs w f = record { fits = (f.0, refl, f.2); rows_are = refl }
put_type [] ks (v ∷ vs) cs w f = absurd (none f.1)
  where
    none : v ∷ vs ≡ [] → ⊥
    none e = cc
put_type (Kind ∷ ss) [] vs cs w f = absurd f
put_type (Kind ∷ ss) (l ∷ ks) vs cs w f =
    let p = put_type ss ks vs cs w f in
    record { fits = p.fits; rows_are = ap (λ rs. kind_row l ∷ rs) p.rows_are }
put_type (Ty ∷ ss) ks [] cs w f = absurd f
put_type (Ty ∷ ss) ks (v ∷ vs) cs w f =
    let p = put_type ss ks vs cs w f in
    record { fits = p.fits; rows_are = ap (λ rs. type_row v ∷ rs) p.rows_are }
put_type (Constant ∷ ss) ks vs [] w f = absurd f
put_type (Constant ∷ ss) ks vs (c ∷ cs) w f =
    let p = put_type ss ks vs cs w f in
    record { fits = p.fits; rows_are = ap (λ rs. constant_row c ∷ rs) p.rows_are }

pub put_constant : (ss : List Sort) (ks : List (List ℕ)) (vs : List TypeView) (cs : List Kept) (d : Kept) → Fits ss ks vs cs
    → PutsRow ss ks vs cs (ss ++ Constant ∷ []) ks vs (cs ++ d ∷ []) (constant_row d)
put_constant [] ks vs [] d f = record { fits = (f.0, f.1, refl); rows_are = refl }
put_constant [] ks vs (c ∷ cs) d f = absurd (none f.2)
  where
    none : c ∷ cs ≡ [] → ⊥
    none e = cc
put_constant (Kind ∷ ss) [] vs cs d f = absurd f
put_constant (Kind ∷ ss) (l ∷ ks) vs cs d f =
    let p = put_constant ss ks vs cs d f in
    record { fits = p.fits; rows_are = ap (λ rs. kind_row l ∷ rs) p.rows_are }
put_constant (Ty ∷ ss) ks [] cs d f = absurd f
put_constant (Ty ∷ ss) ks (v ∷ vs) cs d f =
    let p = put_constant ss ks vs cs d f in
    record { fits = p.fits; rows_are = ap (λ rs. type_row v ∷ rs) p.rows_are }
put_constant (Constant ∷ ss) ks vs [] d f = absurd f
put_constant (Constant ∷ ss) ks vs (c ∷ cs) d f =
    let p = put_constant ss ks vs cs d f in
    record { fits = p.fits; rows_are = ap (λ rs. constant_row c ∷ rs) p.rows_are }

-- and without the last row

pub some_kind : (ss : List Sort) (ks : List (List ℕ)) (vs : List TypeView) (cs : List Kept) → Fits (ss ++ Kind ∷ []) ks vs cs → 0 < length ks
some_kind ss [] vs cs f = absurd (none ss vs cs f)
  where
    none : (ss : List Sort) (vs : List TypeView) (cs : List Kept) → Fits (ss ++ Kind ∷ []) [] vs cs → ⊥
    none [] vs cs f = f
    none (Kind ∷ ss) vs cs f = f
    none (Ty ∷ ss) [] cs f = f
    none (Ty ∷ ss) (v ∷ vs) cs f = none ss vs cs f
    none (Constant ∷ ss) vs [] f = f
    none (Constant ∷ ss) vs (c ∷ cs) f = none ss vs cs f
some_kind ss (k ∷ ks) vs cs f = omega arith

pub some_type : (ss : List Sort) (ks : List (List ℕ)) (vs : List TypeView) (cs : List Kept) → Fits (ss ++ Ty ∷ []) ks vs cs → 0 < length vs
some_type ss ks [] cs f = absurd (none ss ks cs f)
  where
    none : (ss : List Sort) (ks : List (List ℕ)) (cs : List Kept) → Fits (ss ++ Ty ∷ []) ks [] cs → ⊥
    none [] ks cs f = f
    none (Kind ∷ ss) [] cs f = f
    none (Kind ∷ ss) (k ∷ ks) cs f = none ss ks cs f
    none (Ty ∷ ss) ks cs f = f
    none (Constant ∷ ss) ks [] f = f
    none (Constant ∷ ss) ks (c ∷ cs) f = none ss ks cs f
some_type ss ks (v ∷ vs) cs f = omega arith

pub some_constant : (ss : List Sort) (ks : List (List ℕ)) (vs : List TypeView) (cs : List Kept) → Fits (ss ++ Constant ∷ []) ks vs cs → 0 < length cs
some_constant ss ks vs [] f = absurd (none ss ks vs f)
  where
    none : (ss : List Sort) (ks : List (List ℕ)) (vs : List TypeView) → Fits (ss ++ Constant ∷ []) ks vs [] → ⊥
    none [] ks vs f = f
    none (Kind ∷ ss) [] vs f = f
    none (Kind ∷ ss) (k ∷ ks) vs f = none ss ks vs f
    none (Ty ∷ ss) ks [] f = f
    none (Ty ∷ ss) ks (v ∷ vs) f = none ss ks vs f
    none (Constant ∷ ss) ks vs f = f
some_constant ss ks vs (c ∷ cs) f = omega arith

no_more : {X : Type 0} (xs : List X) (x : X) → xs ++ x ∷ [] ≡ [] → ⊥
no_more [] x e = cc
no_more (y ∷ xs) x e = cc

front_kind : (ss : List Sort) (ks : List (List ℕ)) (vs : List TypeView) (cs : List Kept) (k : List ℕ) → Fits (ss ++ Kind ∷ []) (ks ++ k ∷ []) vs cs → Fits ss ks vs cs
front_kind [] [] vs cs k f = f
front_kind [] (l ∷ ks) vs cs k f = absurd (no_more ks k f.0)
front_kind (Kind ∷ ss) [] vs cs k f = absurd (omega (arith, some_kind ss [] vs cs f))
front_kind (Kind ∷ ss) (l ∷ ks) vs cs k f = front_kind ss ks vs cs k f
front_kind (Ty ∷ ss) ks [] cs k f = f
front_kind (Ty ∷ ss) ks (v ∷ vs) cs k f = front_kind ss ks vs cs k f
front_kind (Constant ∷ ss) ks vs [] k f = f
front_kind (Constant ∷ ss) ks vs (c ∷ cs) k f = front_kind ss ks vs cs k f

front_type : (ss : List Sort) (ks : List (List ℕ)) (vs : List TypeView) (cs : List Kept) (w : TypeView) → Fits (ss ++ Ty ∷ []) ks (vs ++ w ∷ []) cs → Fits ss ks vs cs
front_type [] ks [] cs w f = f
front_type [] ks (v ∷ vs) cs w f = absurd (no_more vs w f.1)
front_type (Kind ∷ ss) [] vs cs w f = f
front_type (Kind ∷ ss) (l ∷ ks) vs cs w f = front_type ss ks vs cs w f
front_type (Ty ∷ ss) ks [] cs w f = absurd (omega (arith, some_type ss ks [] cs f))
front_type (Ty ∷ ss) ks (v ∷ vs) cs w f = front_type ss ks vs cs w f
front_type (Constant ∷ ss) ks vs [] w f = f
front_type (Constant ∷ ss) ks vs (c ∷ cs) w f = front_type ss ks vs cs w f

front_constant : (ss : List Sort) (ks : List (List ℕ)) (vs : List TypeView) (cs : List Kept) (d : Kept) → Fits (ss ++ Constant ∷ []) ks vs (cs ++ d ∷ []) → Fits ss ks vs cs
front_constant [] ks vs [] d f = f
front_constant [] ks vs (c ∷ cs) d f = absurd (no_more cs d f.2)
front_constant (Kind ∷ ss) [] vs cs d f = f
front_constant (Kind ∷ ss) (l ∷ ks) vs cs d f = front_constant ss ks vs cs d f
front_constant (Ty ∷ ss) ks [] cs d f = f
front_constant (Ty ∷ ss) ks (v ∷ vs) cs d f = front_constant ss ks vs cs d f
front_constant (Constant ∷ ss) ks vs [] d f = absurd (omega (arith, some_constant ss ks vs [] f))
front_constant (Constant ∷ ss) ks vs (c ∷ cs) d f = front_constant ss ks vs cs d f

module _ (ss2 ss : List Sort) (ks2 ks : List (List ℕ)) (vs2 vs : List TypeView) (cs2 cs : List Kept) where
  pub drop_kind : (r : Option (List ℕ)) → ss2 ≡ ss ++ Kind ∷ [] → ks2 ≡ ks ++ option_to_list r → (IsSome r ↔ (0 < length ks2)) → Fits ss2 ks2 vs cs → AddsRow ss ks vs cs ss2 ks2 vs cs
  drop_kind None e f some fits = absurd (true≢false (sym (some.1 (some_kind ss ks2 vs cs (subst (λ l. Fits l ks2 vs cs) e fits)))))
  drop_kind (Some k) e f some fits =
      let front = front_kind ss ks vs cs k (subst₂ (λ l m. Fits l m vs cs) e f fits) in
      let put = put_kind ss ks vs cs k front in
      record { row = kind_row k; fits = front; rows_are = ap (λ l. rows l ks2 vs cs) e ∙ ap (λ l. rows (ss ++ Kind ∷ []) l vs cs) f ∙ put.rows_are }

  pub drop_type : (r : Option TypeView) → ss2 ≡ ss ++ Ty ∷ [] → vs2 ≡ vs ++ option_to_list r → (IsSome r ↔ (0 < length vs2)) → Fits ss2 ks vs2 cs → AddsRow ss ks vs cs ss2 ks vs2 cs
  drop_type None e f some fits = absurd (true≢false (sym (some.1 (some_type ss ks vs2 cs (subst (λ l. Fits l ks vs2 cs) e fits)))))
  drop_type (Some w) e f some fits =
      let front = front_type ss ks vs cs w (subst₂ (λ l m. Fits l ks m cs) e f fits) in
      let put = put_type ss ks vs cs w front in
      record { row = type_row w; fits = front; rows_are = ap (λ l. rows l ks vs2 cs) e ∙ ap (λ l. rows (ss ++ Ty ∷ []) ks l cs) f ∙ put.rows_are }

  pub drop_constant : (r : Option Kept) → ss2 ≡ ss ++ Constant ∷ [] → cs2 ≡ cs ++ option_to_list r → (IsSome r ↔ (0 < length cs2)) → Fits ss2 ks vs cs2 → AddsRow ss ks vs cs ss2 ks vs cs2
  drop_constant None e f some fits = absurd (true≢false (sym (some.1 (some_constant ss ks vs cs2 (subst (λ l. Fits l ks vs cs2) e fits)))))
  drop_constant (Some d) e f some fits =
      let front = front_constant ss ks vs cs d (subst₂ (λ l m. Fits l ks vs m) e f fits) in
      let put = put_constant ss ks vs cs d front in
      record { row = constant_row d; fits = front; rows_are = ap (λ l. rows l ks vs cs2) e ∙ ap (λ l. rows (ss ++ Constant ∷ []) ks vs l) f ∙ put.rows_are }
