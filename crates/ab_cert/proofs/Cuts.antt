-- Pieces are read in one way: where those of two things begin a list of pieces, the things are equal, and so is what follows.
use Rattle.std.proofs.Common.{◌≡◌, ℕ, Bool, true, false, List, [], ◌∷◌, ◌++◌, length, map, codes, decimal, Option, Some, None, refl, sym, ap, ◌∙◌, append_assoc}
use Rattle.std.specs.List.{flat_map}
use Rattle.ab_cert.specs.Plain.{Ty, base, arrow, Detail, bare, with_type, with_level, Sign, Head, constant, logic, nominal, cell, index, Term, lam, spine, Terms, no_terms, one_more, list_of, Replace, Field, name, label, flag, place, term, numbers, labels, replaces, Step, Variable, Clause}
use Rattle.ab_cert.specs.Tables.{IsName, IsSmall, Each, IsList, IsTy, signs, value_at, kind_of, IsDetail, IsSign, IsHead, IsTerm, AreTerms, IsLabel, IsReplace, form_of, IsField, forms_of, IsStep, IsVariable, IsClause}
use Rattle.ab_cert.specs.Pieces.{Pieces, type_pieces, detail_pieces, head_pieces, term_pieces, terms_pieces, label_piece, flag_piece, replace_pieces, list_pieces, field_pieces, step_pieces, variable_pieces, clause_pieces}
use Rattle.ab_cert.proofs.Clean.{count_wide, small_wide, long_wide, step_wide}
use Rattle.ab_cert.proofs.Heads.{no_name, one_number, unlike}

-- the things are equal, and so is what follows
abbrev pub Same : {A : Type 0} → A → A → Pieces → Pieces → Type 0
Same x y m n = (x ≡ y) × (m ≡ n)

pub type_cut : (a b : Ty) (m n : Pieces) → IsTy a → IsTy b → type_pieces a ++ m ≡ type_pieces b ++ n → Same a b m n
type_cut (base k) (base l) m n h i e =
    let f : k ≡ l = cc in
    let g : m ≡ n = cc in
    (ap base f, g)
type_cut (base k) (arrow c d) m n h i e = let f : k ≡ codes ">" = cc in absurd (no_name k (codes ">") h refl f)
type_cut (arrow a b) (base l) m n h i e = let f : l ≡ codes ">" = cc in absurd (no_name l (codes ">") i refl f)
type_cut (arrow a b) (arrow c d) m n h i e =
    let f : (type_pieces a ++ type_pieces b) ++ m ≡ (type_pieces c ++ type_pieces d) ++ n = cc in
    let g : type_pieces a ++ (type_pieces b ++ m) ≡ type_pieces c ++ (type_pieces d ++ n) = sym (append_assoc (type_pieces a) (type_pieces b) m) ∙ (f ∙ append_assoc (type_pieces c) (type_pieces d) n) in
    let j = type_cut a c (type_pieces b ++ m) (type_pieces d ++ n) h.0 i.0 g in
    let k = type_cut b d m n h.1 i.1 j.1 in
    (ap (λ x. arrow x b) j.0 ∙ ap (λ x. arrow c x) k.0, k.1)

detail_cut : (d e : Detail) (m n : Pieces) → kind_of d ≡ kind_of e → IsDetail d → IsDetail e → detail_pieces d ++ m ≡ detail_pieces e ++ n → Same d e m n
detail_cut bare bare m n s h i e = (refl, e)
detail_cut (with_type a) (with_type b) m n s h i e = let j = type_cut a b m n h i e in (ap with_type j.0, j.1)
detail_cut (with_level a) (with_level b) m n s h i e =
    let f : decimal a ≡ decimal b = cc in
    let g : m ≡ n = cc in
    (ap with_level (one_number a b (long_wide a h) (long_wide b i) f), g)
detail_cut d e m n s h i f = cc

some_same : {A : Type 0} (a b : A) → Some a ≡ Some b → a ≡ b
some_same a b e = cc

sign_cut : (s t : Sign) (m n : Pieces) → IsSign s → IsSign t → (s.word ∷ detail_pieces s.detail) ++ m ≡ (t.word ∷ detail_pieces t.detail) ++ n → Same s t m n
sign_cut s t m n h i e =
    let f : s.word ≡ t.word = cc in
    let g : detail_pieces s.detail ++ m ≡ detail_pieces t.detail ++ n = cc in
    let k : kind_of s.detail ≡ kind_of t.detail = some_same (kind_of s.detail) (kind_of t.detail) (sym h.known ∙ (ap (value_at signs) f ∙ i.known)) in
    let j = detail_cut s.detail t.detail m n k h.detail i.detail g in
    let same : s ≡ t = ap (λ w. record { word = w; detail = s.detail }) f ∙ ap (λ d. record { word = t.word; detail = d }) j.0 in
    (same, j.1)

pub head_cut : (x y : Head) (m n : Pieces) → IsHead x → IsHead y → head_pieces x ++ m ≡ head_pieces y ++ n → Same x y m n
head_cut (constant c) (constant d) m n h i e =
    let f : c ≡ d = cc in
    let g : m ≡ n = cc in
    (ap constant f, g)
head_cut (logic s) (logic t) m n h i e =
    let f : (s.word ∷ detail_pieces s.detail) ++ m ≡ (t.word ∷ detail_pieces t.detail) ++ n = cc in
    let j = sign_cut s t m n h i f in
    (ap logic j.0, j.1)
head_cut (nominal a ty) (nominal b uy) m n h i e =
    let f : decimal a ≡ decimal b = cc in
    let g : type_pieces ty ++ m ≡ type_pieces uy ++ n = cc in
    let j = type_cut ty uy m n h.1 i.1 g in
    (ap (λ x. nominal x ty) (one_number a b (long_wide a h.0) (long_wide b i.0) f) ∙ ap (λ x. nominal b x) j.0, j.1)
head_cut (cell c) (cell d) m n h i e =
    let f : c ≡ d = cc in
    let g : m ≡ n = cc in
    (ap cell f, g)
head_cut (index a) (index b) m n h i e =
    let f : decimal a ≡ decimal b = cc in
    let g : m ≡ n = cc in
    (ap index (one_number a b (count_wide a h) (count_wide b i) f), g)
head_cut x y m n h i e = absurd (unlike (head_pieces x ++ m) (head_pieces y ++ n) refl e)

mutual
  pub term_cut : (t u : Term) (m n : Pieces) → IsTerm t → IsTerm u → term_pieces t ++ m ≡ term_pieces u ++ n → Same t u m n
  term_cut (lam a x t) (lam b y u) m n h i e =
      let f : (type_pieces a ++ x ∷ term_pieces t) ++ m ≡ (type_pieces b ++ y ∷ term_pieces u) ++ n = cc in
      let g = sym (append_assoc (type_pieces a) (x ∷ term_pieces t) m) ∙ (f ∙ append_assoc (type_pieces b) (y ∷ term_pieces u) n) in
      let j = type_cut a b (x ∷ (term_pieces t ++ m)) (y ∷ (term_pieces u ++ n)) h.0 i.0 g in
      let k : x ∷ (term_pieces t ++ m) ≡ y ∷ (term_pieces u ++ n) = j.1 in
      let o : x ≡ y = cc in
      let p : term_pieces t ++ m ≡ term_pieces u ++ n = cc in
      let q = term_cut t u m n h.2 i.2 p in
      (ap (λ z. lam z x t) j.0 ∙ (ap (λ z. lam b z t) o ∙ ap (λ z. lam b y z) q.0), q.1)
  term_cut (spine x ts) (spine y us) m n h i e =
      let f : (head_pieces x ++ decimal (length (list_of ts)) ∷ terms_pieces ts) ++ m ≡ (head_pieces y ++ decimal (length (list_of us)) ∷ terms_pieces us) ++ n = cc in
      let g = sym (append_assoc (head_pieces x) (decimal (length (list_of ts)) ∷ terms_pieces ts) m) ∙ (f ∙ append_assoc (head_pieces y) (decimal (length (list_of us)) ∷ terms_pieces us) n) in
      let j = head_cut x y (decimal (length (list_of ts)) ∷ (terms_pieces ts ++ m)) (decimal (length (list_of us)) ∷ (terms_pieces us ++ n)) h.0 i.0 g in
      let k : decimal (length (list_of ts)) ∷ (terms_pieces ts ++ m) ≡ decimal (length (list_of us)) ∷ (terms_pieces us ++ n) = j.1 in
      let o : decimal (length (list_of ts)) ≡ decimal (length (list_of us)) = cc in
      let p : terms_pieces ts ++ m ≡ terms_pieces us ++ n = cc in
      let count = one_number (length (list_of ts)) (length (list_of us)) (count_wide (length (list_of ts)) h.1) (count_wide (length (list_of us)) i.1) o in
      let q = terms_cut ts us m n count h.2 i.2 p in
      (ap (λ z. spine z ts) j.0 ∙ ap (λ z. spine y z) q.0, q.1)
  term_cut t u m n h i e = absurd (unlike (term_pieces t ++ m) (term_pieces u ++ n) refl e)

  terms_cut : (ts us : Terms) (m n : Pieces) → length (list_of ts) ≡ length (list_of us) → AreTerms ts → AreTerms us → terms_pieces ts ++ m ≡ terms_pieces us ++ n → Same ts us m n
  terms_cut no_terms no_terms m n c h i e = (refl, e)
  terms_cut (one_more t ts) (one_more u us) m n c h i e =
      let g = sym (append_assoc (term_pieces t) (terms_pieces ts) m) ∙ (e ∙ append_assoc (term_pieces u) (terms_pieces us) n) in
      let j = term_cut t u (terms_pieces ts ++ m) (terms_pieces us ++ n) h.0 i.0 g in
      let d : length (list_of ts) ≡ length (list_of us) = cc in
      let k = terms_cut ts us m n d h.1 i.1 j.1 in
      (ap (λ z. one_more z ts) j.0 ∙ ap (λ z. one_more u z) k.0, k.1)
  terms_cut ts us m n c h i e = cc

-- lists

each_cut : {A : Type 0} (P : A → Type 0) (pieces : A → Pieces) → ((x y : A) (m n : Pieces) → P x → P y → pieces x ++ m ≡ pieces y ++ n → Same x y m n)
    → (xs ys : List A) (m n : Pieces) → length xs ≡ length ys → Each P xs → Each P ys → flat_map pieces xs ++ m ≡ flat_map pieces ys ++ n → Same xs ys m n
each_cut P pieces cut [] [] m n c h i e = (refl, e)
each_cut P pieces cut [] (y ∷ ys) m n c h i e = cc
each_cut P pieces cut (x ∷ xs) [] m n c h i e = cc
each_cut P pieces cut (x ∷ xs) (y ∷ ys) m n c h i e =
    let g = sym (append_assoc (pieces x) (flat_map pieces xs) m) ∙ (e ∙ append_assoc (pieces y) (flat_map pieces ys) n) in
    let j = cut x y (flat_map pieces xs ++ m) (flat_map pieces ys ++ n) h.0 i.0 g in
    let d : length xs ≡ length ys = cc in
    let k = each_cut P pieces cut xs ys m n d h.1 i.1 j.1 in
    (ap (λ z. z ∷ xs) j.0 ∙ ap (λ z. y ∷ z) k.0, k.1)

pub list_cut : {A : Type 0} (P : A → Type 0) (pieces : A → Pieces) → ((x y : A) (m n : Pieces) → P x → P y → pieces x ++ m ≡ pieces y ++ n → Same x y m n)
    → (xs ys : List A) (m n : Pieces) → IsList P xs → IsList P ys → list_pieces pieces xs ++ m ≡ list_pieces pieces ys ++ n → Same xs ys m n
list_cut P pieces cut xs ys m n h i e =
    let f : decimal (length xs) ≡ decimal (length ys) = cc in
    let g : flat_map pieces xs ++ m ≡ flat_map pieces ys ++ n = cc in
    each_cut P pieces cut xs ys m n (one_number (length xs) (length ys) (count_wide (length xs) h.0) (count_wide (length ys) i.0) f) h.1 i.1 g

-- names, labels and flags are pieces of their own

pub name_cut : (x y : List ℕ) (m n : Pieces) → IsName x → IsName y → (x ∷ []) ++ m ≡ (y ∷ []) ++ n → Same x y m n
name_cut x y m n h i e =
    let f : x ≡ y = cc in
    let g : m ≡ n = cc in
    (f, g)

pub label_cut : (x y : Option (List ℕ)) (m n : Pieces) → IsLabel x → IsLabel y → (label_piece x ∷ []) ++ m ≡ (label_piece y ∷ []) ++ n → Same x y m n
label_cut None None m n h i e = let g : m ≡ n = cc in (refl, g)
label_cut None (Some y) m n h i e = let f : y ≡ codes "-" = cc in absurd (no_name y (codes "-") i refl f)
label_cut (Some x) None m n h i e = let f : x ≡ codes "-" = cc in absurd (no_name x (codes "-") h refl f)
label_cut (Some x) (Some y) m n h i e =
    let f : x ≡ y = cc in
    let g : m ≡ n = cc in
    (ap (λ z. Some z) f, g)

flag_cut : (x y : Bool) (m n : Pieces) → (flag_piece x ∷ []) ++ m ≡ (flag_piece y ∷ []) ++ n → Same x y m n
flag_cut true true m n e = let g : m ≡ n = cc in (refl, g)
flag_cut false false m n e = let g : m ≡ n = cc in (refl, g)
flag_cut true false m n e = absurd (unlike ((flag_piece true ∷ []) ++ m) ((flag_piece false ∷ []) ++ n) refl e)
flag_cut false true m n e = absurd (unlike ((flag_piece false ∷ []) ++ m) ((flag_piece true ∷ []) ++ n) refl e)

small_cut : (x y : ℕ) (m n : Pieces) → IsSmall x → IsSmall y → (decimal x ∷ []) ++ m ≡ (decimal y ∷ []) ++ n → Same x y m n
small_cut x y m n h i e =
    let f : decimal x ≡ decimal y = cc in
    let g : m ≡ n = cc in
    (one_number x y (small_wide x h) (small_wide y i) f, g)

replace_cut : (x y : Replace) (m n : Pieces) → IsReplace x → IsReplace y → replace_pieces x ++ m ≡ replace_pieces y ++ n → Same x y m n
replace_cut x y m n h i e =
    let f : decimal x.number ≡ decimal y.number = cc in
    let g : (type_pieces x.ty ++ term_pieces x.to) ++ m ≡ (type_pieces y.ty ++ term_pieces y.to) ++ n = cc in
    let a = sym (append_assoc (type_pieces x.ty) (term_pieces x.to) m) ∙ (g ∙ append_assoc (type_pieces y.ty) (term_pieces y.to) n) in
    let j = type_cut x.ty y.ty (term_pieces x.to ++ m) (term_pieces y.to ++ n) h.1 i.1 a in
    let k = term_cut x.to y.to m n h.2 i.2 j.1 in
    let same : x ≡ y =
    ap (λ z. record { number = z; ty = x.ty; to = x.to }) (one_number x.number y.number (long_wide x.number h.0) (long_wide y.number i.0) f)
    ∙ (ap (λ z. record { number = y.number; ty = z; to = x.to }) j.0 ∙ ap (λ z. record { number = y.number; ty = y.ty; to = z }) k.0) in
    (same, k.1)

-- fields of one form

field_cut : (x y : Field) (m n : Pieces) → form_of x ≡ form_of y → IsField x → IsField y → field_pieces x ++ m ≡ field_pieces y ++ n → Same x y m n
field_cut (name x) (name y) m n s h i e = let j = name_cut x y m n h i e in (ap name j.0, j.1)
field_cut (label x) (label y) m n s h i e = let j = label_cut x y m n h i e in (ap label j.0, j.1)
field_cut (flag x) (flag y) m n s h i e = let j = flag_cut x y m n e in (ap flag j.0, j.1)
field_cut (place x) (place y) m n s h i e =
    let f : decimal x ≡ decimal y = cc in
    let g : m ≡ n = cc in
    (ap place (one_number x y (count_wide x h) (count_wide y i) f), g)
field_cut (term x) (term y) m n s h i e = let j = term_cut x y m n h i e in (ap term j.0, j.1)
field_cut (numbers x) (numbers y) m n s h i e = let j = list_cut IsSmall (λ z. decimal z ∷ []) small_cut x y m n h i e in (ap numbers j.0, j.1)
field_cut (labels x) (labels y) m n s h i e = let j = list_cut IsLabel (λ z. label_piece z ∷ []) label_cut x y m n h i e in (ap labels j.0, j.1)
field_cut (replaces x) (replaces y) m n s h i e = let j = list_cut IsReplace replace_pieces replace_cut x y m n h i e in (ap replaces j.0, j.1)
field_cut x y m n s h i e = cc

fields_cut : (xs ys : List Field) (m n : Pieces) → map form_of xs ≡ map form_of ys → Each IsField xs → Each IsField ys → flat_map field_pieces xs ++ m ≡ flat_map field_pieces ys ++ n → Same xs ys m n
fields_cut [] [] m n s h i e = (refl, e)
fields_cut [] (y ∷ ys) m n s h i e = cc
fields_cut (x ∷ xs) [] m n s h i e = cc
fields_cut (x ∷ xs) (y ∷ ys) m n s h i e =
    let f : form_of x ≡ form_of y = cc in
    let r : map form_of xs ≡ map form_of ys = cc in
    let g = sym (append_assoc (field_pieces x) (flat_map field_pieces xs) m) ∙ (e ∙ append_assoc (field_pieces y) (flat_map field_pieces ys) n) in
    let j = field_cut x y (flat_map field_pieces xs ++ m) (flat_map field_pieces ys ++ n) f h.0 i.0 g in
    let k = fields_cut xs ys m n r h.1 i.1 j.1 in
    (ap (λ z. z ∷ xs) j.0 ∙ ap (λ z. y ∷ z) k.0, k.1)

pub step_same : (s t : Step) → IsStep s → IsStep t → step_pieces s ≡ step_pieces t → s ≡ t
step_same s t h i e =
    let f : decimal s.number ≡ decimal t.number = cc in
    let g : flat_map field_pieces s.fields ≡ flat_map field_pieces t.fields = cc in
    let number = one_number s.number t.number (step_wide s.number (map form_of s.fields) h.known) (step_wide t.number (map form_of t.fields) i.known) f in
    let forms = some_same (map form_of s.fields) (map form_of t.fields) (sym h.known ∙ (ap forms_of number ∙ i.known)) in
    let j = fields_cut s.fields t.fields [] [] forms h.fields i.fields (ap (λ z. z ++ []) g) in
    ap (λ z. record { number = z; fields = s.fields }) number ∙ ap (λ z. record { number = t.number; fields = z }) j.0

variable_cut : (x y : Variable) (m n : Pieces) → IsVariable x → IsVariable y → variable_pieces x ++ m ≡ variable_pieces y ++ n → Same x y m n
variable_cut x y m n h i e =
    let f : x.name ≡ y.name = cc in
    let g : type_pieces x.ty ++ m ≡ type_pieces y.ty ++ n = cc in
    let j = type_cut x.ty y.ty m n h.1 i.1 g in
    let same : x ≡ y = ap (λ z. record { name = z; ty = x.ty }) f ∙ ap (λ z. record { name = y.name; ty = z }) j.0 in
    (same, j.1)

pub clause_same : (c d : Clause) → IsClause c → IsClause d → clause_pieces c ≡ clause_pieces d → c ≡ d
clause_same c d h i e =
    let j = list_cut IsVariable variable_pieces variable_cut c.variables d.variables (term_pieces c.head ++ term_pieces c.body) (term_pieces d.head ++ term_pieces d.body) h.0 i.0 e in
    let k = term_cut c.head d.head (term_pieces c.body) (term_pieces d.body) h.1 i.1 j.1 in
    let l = term_cut c.body d.body [] [] h.2 i.2 (ap (λ z. z ++ []) k.1) in
    ap (λ z. record { variables = z; head = c.head; body = c.body }) j.0
    ∙ (ap (λ z. record { variables = d.variables; head = z; body = c.body }) k.0 ∙ ap (λ z. record { variables = d.variables; head = d.head; body = z }) l.0)
