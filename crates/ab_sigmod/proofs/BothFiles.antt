-- The two files of a specification: its signature, and then its module.
use Rattle.std.proofs.Common.{◌≡◌, ℕ, List, [], ◌∷◌, map, ap, sym, ◌∙◌, subst}
use Rattle.ab_grammar.specs.declared.file.FileKind.TheVariants.{Signature, Module}
use Rattle.ab_syntax.specs.ab_expressions.specs.Items.{list_of}
use Rattle.ab_sigmod.specs.declared.spec.SpecFile.{SpecFile}
use Rattle.ab_sigmod.specs.declared.spec.Spec.{Spec}
use Rattle.ab_sigmod.specs.FileNames.{File}
use Rattle.ab_sigmod.specs.FileLoads.{FilesSeen}
use Rattle.ab_sigmod.specs.FileOrder.{Read, Progress, Fault, AreRead, asked, beginning}
use Rattle.ab_sigmod.specs.Outcomes.{read_of, WasRead, WasRefused}
use Rattle.ab_sigmod.specs.Readings.{Reads, Refuses}
use Rattle.ab_sigmod.proofs.Appending.{reads_on, refuses_on, refuses_more}

module _ (x : List ℕ) (s : FilesSeen) (chain : List File) (none_open : chain ≡ []) (p : Progress) (at_first : p ≡ beginning) where
  abbrev signature : List File
  signature = record { base = x; kind = Signature } ∷ []

  abbrev its_module : List File
  its_module = record { base = x; kind = Module } ∷ []

  pub no_signature_told : {t : FilesSeen} {f : Fault} → Refuses chain signature p s t f → WasRefused x s t f
  no_signature_told {t = t} {f = f} b =
      let a : Refuses [] signature beginning s t f = subst (λ (q : Progress). Refuses [] signature q s t f) at_first (subst (λ (c : List File). Refuses c signature p s t f) none_open b) in
      let d : Refuses [] (asked Module (x ∷ [])) beginning s t f = refuses_more its_module a in
      record { loads = d.loads; asked = d.asked; is = d.are_faulty }

  module _ {t : FilesSeen} {q : Progress} (a : Reads chain signature p s t q) (after : List File) (as_before : after ≡ chain) where
    first : Reads [] signature beginning s t q
    first = subst (λ (r : Progress). Reads [] signature r s t q) at_first (subst (λ (c : List File). Reads c signature p s t q) none_open a)

    pub no_module_told : {u : FilesSeen} {f : Fault} → Refuses after its_module q t u f → WasRefused x s u f
    no_module_told {u = u} {f = f} b =
        let d : Refuses [] (asked Module (x ∷ [])) beginning s u f = refuses_on [] beginning s first (subst (λ (c : List File). Refuses c its_module q t u f) (as_before ∙ none_open) b) in
        record { loads = d.loads; asked = d.asked; is = d.are_faulty }

    pub both_told : {u : FilesSeen} {n : ℕ} (fs : List SpecFile) → Reads after its_module q t u (record { loads = n; files = map read_of fs }) → (spec : Spec) → list_of spec.files ≡ fs → WasRead x s u spec
    both_told {u = u} {n = n} fs b spec e =
        let r : Progress = record { loads = n; files = map read_of fs } in
        let d : Reads [] (asked Module (x ∷ [])) beginning s u r = reads_on [] beginning s first (subst (λ (c : List File). Reads c its_module q t u r) (as_before ∙ none_open) b) in
        record {
          loads = d.loads;
          asked = d.asked;
          is = (n, subst (λ (rs : List Read). AreRead [] (asked Module (x ∷ [])) beginning d.loads (record { loads = n; files = rs })) (ap (map read_of) (sym e)) d.are_read);
        }
