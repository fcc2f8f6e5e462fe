-- Reading the items of a certificate, up to the last line.
use Rattle.std.proofs.Common.{◌≡◌, ℕ, List, [], ◌∷◌, ◌++◌, length, map, codes, Option, Some, None, refl, sym, ap, ◌∙◌, append_assoc}
use Rattle.std.specs.List.{flat_map}
use Rattle.std.proofs.lemmas.List.{append-nil, map-append}
use Rattle.ab_cert.specs.declared.cert.CertItem.{CertItem}
use Rattle.ab_cert.specs.Plain.{Item}
use Rattle.ab_cert.specs.Tables.{Each, IsItem}
use Rattle.ab_cert.specs.Pieces.{Pieces}
use Rattle.ab_cert.specs.Values.{item_of}
use Rattle.ab_cert.specs.Forms.{Form, item_pieces}
use Rattle.ab_cert.proofs.Many.{ManyBegun}

abbrev pub item_form : Form CertItem
item_form = record { Meant = Item; meant = item_of; pieces = item_pieces; good = IsItem }

abbrev pub ItemsSoFar : Pieces → List CertItem → Pieces → Type 0
ItemsSoFar old read left = (xs : List Item) (rest : Pieces) → Each IsItem xs → old ≡ flat_map item_pieces xs ++ codes "end" ∷ rest → ManyBegun item_form xs (codes "end" ∷ rest) read left

pub items_none : (old : Pieces) → ItemsSoFar old [] old
items_none old = λ xs rest h e. record { after = xs; each = h; all = refl; left_is = e }

-- what the next call says, where it gives this
abbrev pub Gives : Pieces → Option CertItem → Pieces → Type 0
Gives left o new =
    ((x : Item) (rest : Pieces) → IsItem x → left ≡ item_pieces x ++ rest → (v : CertItem) × ((o ≡ Some v) × ((item_of v ≡ x) × (new ≡ rest))))
    × ((rest : Pieces) → left ≡ codes "end" ∷ rest → o ≡ None)

some_same : {A : Type 0} (a b : A) → Some a ≡ Some b → a ≡ b
some_same a b e = cc

some_none : {A : Type 0} (a : A) → Some a ≡ None → ⊥
some_none a e = cc

none_some : {A : Type 0} (a : A) → None ≡ Some a → ⊥
none_some a e = cc

items_cases : (xs : List Item) (rest : Pieces) (read : List CertItem) (v : CertItem) (left new : Pieces) (after : List Item) → Gives left (Some v) new
    → Each IsItem after → xs ≡ map item_of read ++ after → left ≡ flat_map item_pieces after ++ codes "end" ∷ rest → ManyBegun item_form xs (codes "end" ∷ rest) (read ++ v ∷ []) new
items_cases xs rest read v left new [] g h e d = absurd (some_none v (g.1 rest d))
items_cases xs rest read v left new (y ∷ ys) g h e d =
    let r = g.0 y (flat_map item_pieces ys ++ codes "end" ∷ rest) h.0 (d ∙ append_assoc (item_pieces y) (flat_map item_pieces ys) (codes "end" ∷ rest)) in
    let same : item_of v ≡ y = ap item_of (some_same v r.0 r.1.0) ∙ r.1.1.0 in
    record {
      after = ys;
      each = h.1;
      all = e ∙ (ap (λ q. map item_of read ++ q ∷ ys) (sym same) ∙ (sym (append_assoc (map item_of read) (item_of v ∷ []) ys) ∙ ap (λ q. q ++ ys) (sym (map-append item_of read (v ∷ [])))));
      left_is = r.1.1.1;
    }

pub items_more : (old : Pieces) (read : List CertItem) (v : CertItem) (left new : Pieces) → Gives left (Some v) new → ItemsSoFar old read left → ItemsSoFar old (read ++ v ∷ []) new
items_more old read v left new g far = λ xs rest h e.
    let b = far xs rest h e in
    items_cases xs rest read v left new b.after g b.each b.all b.left_is

items_ended : (xs : List Item) (rest : Pieces) (read : List CertItem) (left new : Pieces) (after : List Item) → Gives left None new
    → Each IsItem after → xs ≡ map item_of read ++ after → left ≡ flat_map item_pieces after ++ codes "end" ∷ rest → map item_of read ≡ xs
items_ended xs rest read left new [] g h e d = sym (e ∙ append-nil (map item_of read))
items_ended xs rest read left new (y ∷ ys) g h e d =
    let r = g.0 y (flat_map item_pieces ys ++ codes "end" ∷ rest) h.0 (d ∙ append_assoc (item_pieces y) (flat_map item_pieces ys) (codes "end" ∷ rest)) in
    absurd (none_some r.0 r.1.0)

pub items_all : (old : Pieces) (read : List CertItem) (left new : Pieces) → Gives left None new → ItemsSoFar old read left
    → (xs : List Item) (rest : Pieces) → Each IsItem xs → old ≡ flat_map item_pieces xs ++ codes "end" ∷ rest → map item_of read ≡ xs
items_all old read left new g far xs rest h e =
    let b = far xs rest h e in
    items_ended xs rest read left new b.after g b.each b.all b.left_is
