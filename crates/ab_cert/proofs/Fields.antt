-- The fields of a step, by the forms that the table of steps gives.
use Rattle.std.proofs.Common.{◌≡◌, ◌≤◌, ◌<◌, ℕ, zero, suc, Bool, List, [], ◌∷◌, ◌++◌, length, map, Option, Some, None, refl, sym, ap, ◌∙◌, subst, arith}
use Rattle.std.specs.List.{flat_map}
use Rattle.std.proofs.lemmas.List.{append-nil}
use Rattle.ab_cert.specs.Plain.{Field, name, label, flag, place, term, numbers, labels, replaces, Step}
use Rattle.ab_cert.specs.Tables as table
use Rattle.ab_cert.specs.Tables.{a_name, a_label, a_flag, a_place, a_term, some_numbers, some_labels, some_replaces, form_of, form_at, forms_of, Each, IsField, IsStep}
use Rattle.ab_cert.specs.Pieces.{Pieces, field_pieces}
use Rattle.ab_cert.specs.Values.{step}
use Rattle.ab_cert.specs.Forms.{Form, name_form, label_form, flag_form, place_form, small_form, term_form, list_form, both_form, replace_form}

-- a field of this form is spelled so
pub record FieldShape (tag : table.Form) {T : Type 0} (f : Form T) : Type 0 where
  pub put : f.Meant → Field
  pub pieces : (v : f.Meant) → field_pieces (put v) ≡ f.pieces v
  pub good : (v : f.Meant) → IsField (put v) → f.good v
  pub known : (x : Field) → form_of x ≡ tag → (v : f.Meant) × (x ≡ put v)

pub is_name : (x : Field) → form_of x ≡ a_name → (v : List ℕ) × (x ≡ name v)
is_name (name v) e = (v, refl)
is_name x e = cc

pub is_label : (x : Field) → form_of x ≡ a_label → (v : Option (List ℕ)) × (x ≡ label v)
is_label (label v) e = (v, refl)
is_label x e = cc

pub is_flag : (x : Field) → form_of x ≡ a_flag → (v : Bool) × (x ≡ flag v)
is_flag (flag v) e = (v, refl)
is_flag x e = cc

pub is_place : (x : Field) → form_of x ≡ a_place → (v : ℕ) × (x ≡ place v)
is_place (place v) e = (v, refl)
is_place x e = cc

pub is_term : (x : Field) → form_of x ≡ a_term → (v : term_form.Meant) × (x ≡ term v)
is_term (term v) e = (v, refl)
is_term x e = cc

pub is_numbers : (x : Field) → form_of x ≡ some_numbers → (v : List ℕ) × (x ≡ numbers v)
is_numbers (numbers v) e = (v, refl)
is_numbers x e = cc

pub is_labels : (x : Field) → form_of x ≡ some_labels → (v : List (Option (List ℕ))) × (x ≡ labels v)
is_labels (labels v) e = (v, refl)
is_labels x e = cc

pub is_replaces : (x : Field) → form_of x ≡ some_replaces → (v : List replace_form.Meant) × (x ≡ replaces v)
is_replaces (replaces v) e = (v, refl)
is_replaces x e = cc

abbrev pub name_field : FieldShape a_name name_form
name_field = record { put = name; pieces = λ v. refl; good = λ v h. h; known = is_name }

abbrev pub label_field : FieldShape a_label label_form
label_field = record { put = label; pieces = λ v. refl; good = λ v h. h; known = is_label }

abbrev pub flag_field : FieldShape a_flag flag_form
flag_field = record { put = flag; pieces = λ v. refl; good = λ v h. h; known = is_flag }

abbrev pub place_field : FieldShape a_place place_form
place_field = record { put = place; pieces = λ v. refl; good = λ v h. h; known = is_place }

abbrev pub term_field : FieldShape a_term term_form
term_field = record { put = term; pieces = λ v. refl; good = λ v h. h; known = is_term }

abbrev pub numbers_field : FieldShape some_numbers (list_form small_form)
numbers_field = record { put = numbers; pieces = λ v. refl; good = λ v h. h; known = is_numbers }

abbrev pub labels_field : FieldShape some_labels (list_form label_form)
labels_field = record { put = labels; pieces = λ v. refl; good = λ v h. h; known = is_labels }

abbrev pub replaces_field : FieldShape some_replaces (list_form replace_form)
replaces_field = record { put = replaces; pieces = λ v. refl; good = λ v h. h; known = is_replaces }

-- fields of these forms, one behind another
pub record Shape (tags : List table.Form) {T : Type 0} (f : Form T) : Type 0 where
  pub put : f.Meant → List Field
  pub pieces : (v : f.Meant) → flat_map field_pieces (put v) ≡ f.pieces v
  pub good : (v : f.Meant) → Each IsField (put v) → f.good v
  pub known : (xs : List Field) → map form_of xs ≡ tags → (v : f.Meant) × (xs ≡ put v)

module _ {T : Type 0} {f : Form T} (tag : table.Form) (s : FieldShape tag f) where
  pub one_known : (xs : List Field) → map form_of xs ≡ tag ∷ [] → (v : f.Meant) × (xs ≡ s.put v ∷ [])
  one_known [] e = cc
  one_known (x ∷ []) e =
      let same : form_of x ≡ tag = cc in
      let k = s.known x same in
      (k.0, ap (λ q. q ∷ []) k.1)
  one_known (x ∷ (y ∷ xs)) e = cc

  abbrev pub one : Shape (tag ∷ []) f
  one = record { put = λ v. s.put v ∷ []; pieces = λ v. append-nil (field_pieces (s.put v)) ∙ s.pieces v; good = λ v h. s.good v h.0; known = one_known }

module _ {S T : Type 0} {f : Form S} {g : Form T} (tag : table.Form) (tags : List table.Form) (s : FieldShape tag f) (t : Shape tags g) where
  pub more_known : (xs : List Field) → map form_of xs ≡ tag ∷ tags → (v : f.Meant × g.Meant) × (xs ≡ s.put v.0 ∷ t.put v.1)
  more_known [] e = cc
  more_known (x ∷ xs) e =
      let same : form_of x ≡ tag = cc in
      let others : map form_of xs ≡ tags = cc in
      let k = s.known x same in
      let l = t.known xs others in
      ((k.0, l.0), ap (λ q. q ∷ xs) k.1 ∙ ap (λ q. s.put k.0 ∷ q) l.1)

  abbrev pub more : Shape (tag ∷ tags) (both_form f g)
  more = record {
    put = λ v. s.put v.0 ∷ t.put v.1;
    pieces = λ v. ap (λ q. q ++ flat_map field_pieces (t.put v.1)) (s.pieces v.0) ∙ ap (λ q. f.pieces v.0 ++ q) (t.pieces v.1);
    good = λ v h. (s.good v.0 h.0, t.good v.1 h.1);
    known = more_known;
  }

some_same : {A : Type 0} (a b : A) → Some a ≡ Some b → a ≡ b
some_same a b e = cc

module _ {T : Type 0} {f : Form T} (tags : List table.Form) (s : Shape tags f) (n : ℕ) (row : forms_of n ≡ Some tags) where
  -- the fields of the rule are read
  pub arm : (rule : ℕ) (v : T) (old new : Pieces) → rule ≡ n
      → ((y : f.Meant) (r : Pieces) → f.good y → old ≡ f.pieces y ++ r → (f.meant v ≡ y) × (new ≡ r))
      → (x : Step) (rest : Pieces) → IsStep x → rule ≡ x.number → old ≡ flat_map field_pieces x.fields ++ rest → (step n (s.put (f.meant v)) ≡ x) × (new ≡ rest)
  arm rule v old new e h x rest k q d =
      let number : x.number ≡ n = sym q ∙ e in
      let same : map form_of x.fields ≡ tags = some_same (map form_of x.fields) tags (sym k.known ∙ (ap forms_of number ∙ row)) in
      let i = s.known x.fields same in
      let g = h i.0 rest (s.good i.0 (subst (Each IsField) i.1 k.fields)) (d ∙ (ap (λ z. flat_map field_pieces z ++ rest) i.1 ∙ ap (λ z. z ++ rest) (s.pieces i.0))) in
      (ap (λ z. step n (s.put z)) g.0 ∙ (ap (step n) (sym i.1) ∙ ap (λ z. step z x.fields) (sym number)), g.1)

no_fields : (xs : List Field) → map form_of xs ≡ [] → xs ≡ []
no_fields [] e = refl
no_fields (x ∷ xs) e = cc

-- a rule without fields
pub bare_arm : (n rule : ℕ) (old : Pieces) → forms_of n ≡ Some [] → rule ≡ n
    → (x : Step) (rest : Pieces) → IsStep x → rule ≡ x.number → old ≡ flat_map field_pieces x.fields ++ rest → (step n [] ≡ x) × (old ≡ rest)
bare_arm n rule old row e x rest k q d =
    let number : x.number ≡ n = sym q ∙ e in
    let none = no_fields x.fields (some_same (map form_of x.fields) [] (sym k.known ∙ (ap forms_of number ∙ row))) in
    (ap (step n) (sym none) ∙ ap (λ z. step z x.fields) (sym number), d ∙ ap (λ z. flat_map field_pieces z ++ rest) none)

-- the numbers of rules
form_within : (rows : List (List table.Form)) (n : ℕ) (fs : List table.Form) → form_at rows n ≡ Some fs → n < length rows
form_within [] n fs e = cc
form_within (r ∷ rows) zero fs e = omega arith
form_within (r ∷ rows) (suc n) fs e = let l = form_within rows n fs e in omega (arith, l)

rule_bound : (n : ℕ) (fs : List table.Form) → forms_of n ≡ Some fs → (1 ≤ n) × (n ≤ 28)
rule_bound zero fs e = cc
rule_bound (suc n) fs e = let l = form_within table.steps n fs e in (omega arith, omega (arith, l))

pub rule_within : (x : Step) → IsStep x → (1 ≤ x.number) × (x.number ≤ 28)
rule_within x k = rule_bound x.number (map form_of x.fields) k.known
