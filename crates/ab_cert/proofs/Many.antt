-- Reading things one behind another.
use Rattle.std.proofs.Common.{◌≡◌, ◌+◌, ◌<◌, ◌≤◌, ℕ, zero, suc, List, [], ◌∷◌, ◌++◌, length, map, refl, sym, ap, ◌∙◌, append_assoc, arith}
use Rattle.std.specs.List.{flat_map}
use Rattle.std.proofs.lemmas.List.{append-nil, map-append}
use Rattle.std.proofs.Math.ListN.{length-append}
use Rattle.ab_cert.specs.Tables.{Each}
use Rattle.ab_cert.specs.Pieces.{Pieces}
use Rattle.ab_cert.specs.Forms.{Form}
use Rattle.ab_cert.proofs.Trees.{none_left}

-- these are read, and the others are left
pub record ManyBegun {T : Type 0} (f : Form T) (xs : List f.Meant) (rest : Pieces) (read : List T) (left : Pieces) : Type 0 where
  pub after : List f.Meant
  pub each : Each f.good after
  pub all : xs ≡ map f.meant read ++ after
  pub left_is : left ≡ flat_map f.pieces after ++ rest

abbrev pub ManySoFar : {T : Type 0} → Form T → ℕ → Pieces → List T → Pieces → Type 0
ManySoFar f n old read left = (xs : List f.Meant) (rest : Pieces) → length xs ≡ n → Each f.good xs → old ≡ flat_map f.pieces xs ++ rest → ManyBegun f xs rest read left

length_map : {A B : Type 0} (f : A → B) (xs : List A) → length (map f xs) ≡ length xs
length_map f [] = refl
length_map f (x ∷ xs) = ap suc (length_map f xs)

module _ {T : Type 0} (f : Form T) where
  pub many_none : (n : ℕ) (old : Pieces) → ManySoFar f n old [] old
  many_none n old = λ xs rest l h e. record { after = xs; each = h; all = refl; left_is = e }

  many_cases : (xs : List f.Meant) (rest : Pieces) (read : List T) (x : T) (left new : Pieces) (after : List f.Meant)
      → length read < length xs → Each f.good after → xs ≡ map f.meant read ++ after → left ≡ flat_map f.pieces after ++ rest
      → ((y : f.Meant) (r : Pieces) → f.good y → left ≡ f.pieces y ++ r → (f.meant x ≡ y) × (new ≡ r)) → ManyBegun f xs rest (read ++ x ∷ []) new
  many_cases xs rest read x left new [] l h e d g = absurd (omega (arith, l, ap length e, length-append (map f.meant read) [], length_map f.meant read))
  many_cases xs rest read x left new (y ∷ ys) l h e d g =
      let r = g y (flat_map f.pieces ys ++ rest) h.0 (d ∙ append_assoc (f.pieces y) (flat_map f.pieces ys) rest) in
      record {
        after = ys;
        each = h.1;
        all = e ∙ (ap (λ q. map f.meant read ++ q ∷ ys) (sym r.0) ∙ (sym (append_assoc (map f.meant read) (f.meant x ∷ []) ys) ∙ ap (λ q. q ++ ys) (sym (map-append f.meant read (x ∷ [])))));
        left_is = r.1;
      }

  pub many_more : (n : ℕ) (old : Pieces) (read : List T) (x : T) (left new : Pieces) → length read < n
      → ((y : f.Meant) (r : Pieces) → f.good y → left ≡ f.pieces y ++ r → (f.meant x ≡ y) × (new ≡ r)) → ManySoFar f n old read left → ManySoFar f n old (read ++ x ∷ []) new
  many_more n old read x left new l g far = λ xs rest k h e.
      let b = far xs rest k h e in
      many_cases xs rest read x left new b.after (omega (arith, l, k)) b.each b.all b.left_is g

  pub many_all : (n : ℕ) (old : Pieces) (read : List T) (left : Pieces) → length read ≡ n → ManySoFar f n old read left
      → (xs : List f.Meant) (rest : Pieces) → length xs ≡ n → Each f.good xs → old ≡ flat_map f.pieces xs ++ rest → (map f.meant read ≡ xs) × (left ≡ rest)
  many_all n old read left l far xs rest k h e =
      let b = far xs rest k h e in
      let none = none_left b.after (omega (arith, l, k, ap length b.all, length-append (map f.meant read) b.after, length_map f.meant read)) in (
        sym (append-nil (map f.meant read)) ∙ (ap (λ q. map f.meant read ++ q) (sym none) ∙ sym b.all),
        b.left_is ∙ ap (λ q. flat_map f.pieces q ++ rest) none,
      )
