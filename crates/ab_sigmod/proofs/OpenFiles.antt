-- One file, as the reader keeps it: the files that are open, its name as text, and its bytes.
use Rattle.std.proofs.Common.{◌≡◌, ◌<◌, ◌+◌, ℕ, List, [], ◌∷◌, ◌++◌, map, take, drop, length, Contains, Option, Some, None, refl, ap, sym, ◌∙◌, subst}
use Rattle.std.proofs.Math.Seq.{take-append_seam}
use Rattle.std.proofs.lemmas.List.{map-append, length-map, take-map, drop-map}
use Rattle.ab_lex.specs.declared.token.Token.{Token as Lexed}
use Rattle.ab_grammar.specs.FileTrees.{Item}
use Rattle.ab_syntax.specs.ab_expressions.specs.Items.{list_of}
use Rattle.ab_sigmod.specs.declared.progress.OpenFile.{OpenFile}
use Rattle.ab_sigmod.specs.declared.spec.SpecFile.{SpecFile}
use Rattle.ab_sigmod.specs.FileNames.{File, name_of}
use Rattle.ab_sigmod.specs.FileTexts.{TextFault, Titled, IsFaulty}
use Rattle.ab_io.specs.Loads.{Answer, loaded}
use Rattle.ab_sigmod.specs.FileLoads.{FilesSeen, IsLoad}
use Rattle.ab_sigmod.specs.FileOrder.{Read, Progress, Fault, text_fault, circular, too_many_files, limit, IsRefusal, WasRead, load_of, one_loaded, own}
use Rattle.ab_sigmod.specs.Outcomes.{read_of}
use Rattle.ab_sigmod.specs.Readings.{file_of, fault_in, Reads, Refuses, ReadSoFar, AreUnread}
use Rattle.ab_sigmod.proofs.OneFile.{round, too_many, no_bytes, no_text, unread, whole}

bases : (os : List OpenFile) → map (λ (o : OpenFile). o.base) os ≡ map (λ (g : File). g.base) (map file_of os)
bases [] = refl
bases (o ∷ os) = ap (λ (xs : List (List ℕ)). o.base ∷ xs) (bases os)

-- one file more is open
pub opened : (os ns : List OpenFile) (o : OpenFile) (f : File) → ns ≡ os ++ o ∷ [] → file_of o ≡ f → map file_of ns ≡ map file_of os ++ f ∷ []
opened os ns o f e same = ap (map file_of) e ∙ map-append file_of os (o ∷ []) ∙ ap (λ (g : File). map file_of os ++ g ∷ []) same

-- and it is closed again
pub closed : (os ns : List OpenFile) (n : ℕ) (f : File) → n ≡ length os → map file_of ns ≡ map file_of os ++ f ∷ [] → map file_of (take n ns) ≡ map file_of os
closed os ns n f all e =
    sym (take-map file_of n ns) ∙ ap (take n) e
    ∙ ap (λ (m : ℕ). take m (map file_of os ++ f ∷ [])) (all ∙ sym (length-map os file_of)) ∙ take-append_seam (map file_of os) (f ∷ [])

abbrev shown : List ℕ → List Item → Read
shown x is = record { name = x; items = is }

module _ (os : List OpenFile) (f : File) (p : Progress) (s : FilesSeen) where
  abbrev chain : List File
  chain = map file_of os

  pub round_told : (i : ℕ) → drop i chain ≡ f ∷ drop (i + 1) chain → (behind : List OpenFile) → behind ≡ drop i os → (names : List (List ℕ)) → names ≡ map (λ (o : OpenFile). o.base) behind ++ f.base ∷ []
      → (e : Fault) → Some (circular names) ≡ Some e → Refuses chain (f ∷ []) p s s e
  round_told i d behind b names n e h =
      let same : circular names ≡ e = cc in
      let along : map (λ (o : OpenFile). o.base) behind ≡ map (λ (g : File). g.base) (drop i chain) = ap (map (λ (o : OpenFile). o.base)) b ∙ bases (drop i os) ∙ ap (map (λ (g : File). g.base)) (sym (drop-map file_of i os)) in
      subst (Refuses chain (f ∷ []) p s s) same (round chain f p s i d names (n ∙ ap (λ (xs : List (List ℕ)). xs ++ f.base ∷ []) along))

  module _ (no_circle : ¬ Contains chain f) (not_read : ¬ WasRead p f) (name : List ℕ) (named : name ≡ name_of f) where
    pub too_many_told : p.loads ≡ limit → (e : Fault) → Some (too_many_files name) ≡ Some e → Refuses chain (f ∷ []) p s s e
    too_many_told full e h =
        let same : too_many_files name ≡ e = cc in
        subst (Refuses chain (f ∷ []) p s s) (ap too_many_files (sym named) ∙ same) (too_many chain f p s no_circle not_read full)

    module _ (within : p.loads < limit) where
      pub no_bytes_told : {t : FilesSeen} (o : Option Fault) → ((e : Fault) → o ≡ Some e → (a : Answer) × IsLoad s (record { name = name; answer = a }) t × IsRefusal name a e) → (e : Fault) → o ≡ Some e → Refuses chain (f ∷ []) p s t e
      no_bytes_told {t = t} o g e h =
          let r = g e h in
          no_bytes chain f p s no_circle not_read within r.0 e (subst (λ (x : List ℕ). IsLoad s (record { name = x; answer = r.0 }) t) named r.1) (subst (λ (x : List ℕ). IsRefusal x r.0 e) named r.2)

      module _ {t : FilesSeen} (bytes : List ℕ) (l : IsLoad s (record { name = name; answer = loaded bytes }) t) where
        its_load : IsLoad s (load_of f (loaded bytes)) t
        its_load = subst (λ (x : List ℕ). IsLoad s (record { name = x; answer = loaded bytes }) t) named l

        pub no_text_told : (o : Option TextFault) → ((e : TextFault) → o ≡ Some e → IsFaulty bytes f [] e) → (e : Fault) → fault_in name o ≡ Some e → Refuses chain (f ∷ []) p s t e
        no_text_told None g e h = absurd (cc)
        no_text_told (Some x) g e h =
            let same : text_fault name x ≡ e = cc in
            subst (Refuses chain (f ∷ []) p s t) (ap (λ (y : List ℕ). text_fault y x) (sym named) ∙ same) (no_text chain f p s no_circle not_read within bytes its_load x (g x refl))

        module _ (held : List ℕ) (same : held ≡ bytes) {ts : List Lexed} (titled : Titled bytes f ts) (inner : List File) (one_more : inner ≡ chain ++ f ∷ []) where
          pub unread_told : {u : FilesSeen} (e : Fault) → AreUnread name held f.kind ts inner (one_loaded p) t u e → Refuses chain (f ∷ []) p s u e
          unread_told {u = u} e a =
              unread chain f p s no_circle not_read within bytes its_load titled e
              (subst (λ (x : List ℕ). AreUnread x bytes f.kind ts (chain ++ f ∷ []) (one_loaded p) t u e) named
              (subst (λ (bs : List ℕ). AreUnread name bs f.kind ts (chain ++ f ∷ []) (one_loaded p) t u e) same
              (subst (λ (c : List File). AreUnread name held f.kind ts c (one_loaded p) t u e) one_more a)))

          pub whole_told : {u : FilesSeen} {n : ℕ} (fs gs : List SpecFile) (x : SpecFile) → ReadSoFar held f.kind ts inner (one_loaded p) t u (record { loads = n; files = map read_of fs }) (list_of x.items) [] → x.name ≡ name → gs ≡ fs ++ x ∷ []
              → Reads chain (f ∷ []) p s u (record { loads = n; files = map read_of gs })
          whole_told {u = u} {n = n} fs gs x a same_name e =
              let q : Progress = record { loads = n; files = map read_of fs } in
              let b : ReadSoFar bytes f.kind ts (chain ++ f ∷ []) (one_loaded p) t u q (list_of x.items) [] =
              subst (λ (bs : List ℕ). ReadSoFar bs f.kind ts (chain ++ f ∷ []) (one_loaded p) t u q (list_of x.items) []) same
              (subst (λ (c : List File). ReadSoFar held f.kind ts c (one_loaded p) t u q (list_of x.items) []) one_more a) in
              let is : shown (name_of f) (own b.written) ≡ read_of x = ap (λ (y : List ℕ). shown y (own b.written)) (sym (same_name ∙ named)) ∙ ap (shown x.name) b.declared in
              subst (λ (rs : List Read). Reads chain (f ∷ []) p s u (record { loads = n; files = rs }))
              (ap (λ (r : Read). map read_of fs ++ r ∷ []) is ∙ sym (ap (map read_of) e ∙ map-append read_of fs (x ∷ [])))
              (whole chain f p s no_circle not_read within bytes its_load titled b)
