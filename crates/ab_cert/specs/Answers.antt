-- WHAT READING ANSWERS where the text is that of a certificate: this certificate, or want of memory; no byte is bad.
use Rattle.std.specs.Prelude.{◌≡◌, List, Result, Ok, Err}
use Rattle.ab_cert.specs.declared.cert.Cert.{Cert}
use Rattle.ab_cert.specs.declared.fault.ReadFault.{ReadFault}
use Rattle.ab_cert.specs.declared.fault.ReadFault.TheVariants.{BadCert, Memory}
use Rattle.ab_cert.specs.Plain.{Item}
use Rattle.ab_cert.specs.Values.{cert_of}

abbrev pub IsReadAs : List Item → Result Cert ReadFault → Type 0
IsReadAs items (Ok cert) = cert_of cert ≡ items
IsReadAs items (Err (BadCert place)) = ⊥
IsReadAs items (Err (Memory error)) = Unit {0}
