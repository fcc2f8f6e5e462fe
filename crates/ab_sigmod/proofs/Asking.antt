-- The files that names ask for, one name after another.
use Rattle.std.proofs.Common.{◌≡◌, ◌≢◌, ◌<◌, ◌+◌, ℕ, List, [], ◌∷◌, ◌++◌, take, drop, length, get_or, refl, ap, sym, ◌∙◌, subst}
use Rattle.std.proofs.lemmas.List.{take_more, drop_more, take-append-drop}
use Rattle.ab_grammar.specs.declared.file.FileKind.{FileKind}
use Rattle.ab_grammar.specs.declared.file.FileKind.TheVariants.{Signature, Module}
use Rattle.ab_sigmod.specs.FileNames.{File}
use Rattle.ab_sigmod.specs.FileLoads.{FilesSeen}
use Rattle.ab_sigmod.specs.FileOrder.{Progress, Fault, asked}
use Rattle.ab_sigmod.specs.Readings.{Reads, Refuses}
use Rattle.ab_sigmod.proofs.Appending.{asked_on, reads_on, refuses_on, refuses_more}

-- the signature of a name alone, and with the module
only_signature : (k : FileKind) (x : List ℕ) → k ≢ Module → asked k (x ∷ []) ≡ record { base = x; kind = Signature } ∷ []
only_signature Signature x n = refl
only_signature Module x n = absurd (n refl)

module _ (chain : List File) (p : Progress) (s : FilesSeen) (k : FileKind) (xs : List (List ℕ)) (i : ℕ) (x : List ℕ) (h : i < length xs) (is : x ≡ get_or xs i x) where
  split : asked k (take i xs) ++ asked k (x ∷ drop (i + 1) xs) ≡ asked k xs
  split =
      sym (asked_on k (take i xs) (x ∷ drop (i + 1) xs))
      ∙ ap (asked k) (ap (λ (ys : List (List ℕ)). take i xs ++ ys) (ap (λ (y : List ℕ). y ∷ drop (i + 1) xs) is ∙ sym (drop_more xs i x h)) ∙ take-append-drop i xs)

  more : asked k (take i xs) ++ asked k (x ∷ []) ≡ asked k (take (i + 1) xs)
  more = sym (asked_on k (take i xs) (x ∷ [])) ∙ ap (asked k) (ap (λ (y : List ℕ). take i xs ++ y ∷ []) is ∙ sym (take_more xs i x h))

  module _ {t : FilesSeen} {q : Progress} (a : Reads chain (asked k (take i xs)) p s t q) (here : List File) (on : here ≡ chain) where
    next : {u : FilesSeen} {r : Progress} → Reads chain (asked k (x ∷ [])) q t u r → Reads chain (asked k (take (i + 1) xs)) p s u r
    next {u = u} {r = r} b = subst (λ (fs : List File). Reads chain fs p s u r) more (reads_on chain p s a b)

    stops : {u : FilesSeen} {f : Fault} → Refuses chain (asked k (x ∷ drop (i + 1) xs)) q t u f → Refuses chain (asked k xs) p s u f
    stops {u = u} {f = f} b = subst (λ (fs : List File). Refuses chain fs p s u f) split (refuses_on chain p s a b)

    -- the next name asks for its signature alone
    pub signature_read : k ≢ Module → {u : FilesSeen} {r : Progress} → Reads here (record { base = x; kind = Signature } ∷ []) q t u r → Reads chain (asked k (take (i + 1) xs)) p s u r
    signature_read n {u = u} {r = r} b =
        next (subst (λ (fs : List File). Reads chain fs q t u r) (sym (only_signature k x n)) (subst (λ (c : List File). Reads c (record { base = x; kind = Signature } ∷ []) q t u r) on b))

    -- its signature can't be read
    pub signature_refused : {u : FilesSeen} {f : Fault} → Refuses here (record { base = x; kind = Signature } ∷ []) q t u f → Refuses chain (asked k xs) p s u f
    signature_refused {u = u} {f = f} b = stops (behind k)
      where
        there : Refuses chain (record { base = x; kind = Signature } ∷ []) q t u f
        there = subst (λ (c : List File). Refuses c (record { base = x; kind = Signature } ∷ []) q t u f) on b

        behind : (m : FileKind) → Refuses chain (asked m (x ∷ drop (i + 1) xs)) q t u f
        behind Signature = refuses_more (asked Signature (drop (i + 1) xs)) there
        behind Module = refuses_more (record { base = x; kind = Module } ∷ asked Module (drop (i + 1) xs)) there

    -- it asks for its module too, once its signature is read
    module _ (is_module : k ≡ Module) {u : FilesSeen} {r : Progress} (b : Reads here (record { base = x; kind = Signature } ∷ []) q t u r) (there : List File) (as_here : there ≡ here) where
      first : Reads chain (record { base = x; kind = Signature } ∷ []) q t u r
      first = subst (λ (c : List File). Reads c (record { base = x; kind = Signature } ∷ []) q t u r) on b

      pub module_read : {v : FilesSeen} {w : Progress} → Reads there (record { base = x; kind = Module } ∷ []) r u v w → Reads chain (asked k (take (i + 1) xs)) p s v w
      module_read {v = v} {w = w} d =
          next (subst (λ (m : FileKind). Reads chain (asked m (x ∷ [])) q t v w) (sym is_module)
          (reads_on chain q t first (subst (λ (c : List File). Reads c (record { base = x; kind = Module } ∷ []) r u v w) (as_here ∙ on) d)))

      pub module_refused : {v : FilesSeen} {f : Fault} → Refuses there (record { base = x; kind = Module } ∷ []) r u v f → Refuses chain (asked k xs) p s v f
      module_refused {v = v} {f = f} d =
          stops (subst (λ (m : FileKind). Refuses chain (asked m (x ∷ drop (i + 1) xs)) q t v f) (sym is_module)
          (refuses_more (asked Module (drop (i + 1) xs)) (refuses_on chain q t first (subst (λ (c : List File). Refuses c (record { base = x; kind = Module } ∷ []) r u v f) (as_here ∙ on) d))))
