-- A certificate's text is never refused.
use Rattle.std.proofs.Common.{◌≡◌, ℕ, List, Result, Ok, Err, refl}
use Rattle.ab_cert.specs.declared.cert.Cert.{Cert}
use Rattle.ab_cert.specs.declared.fault.ReadFault.{ReadFault}
use Rattle.ab_cert.specs.declared.fault.ReadFault.TheVariants.{BadCert, Memory}
use Rattle.ab_cert.specs.Plain.{Item}
use Rattle.ab_cert.specs.Texts.{IsText, IsFirstBad}
use Rattle.ab_cert.specs.Answers.{IsReadAs}

pub not_refused : (text : List ℕ) (items : List Item) (fault : ReadFault) → IsText text items → ((place : ℕ) → fault ≡ BadCert place → IsFirstBad text place) → IsReadAs items (Err fault)
not_refused text items (BadCert place) t h = (h place refl).no_text items t
not_refused text items (Memory error) t h = tt
