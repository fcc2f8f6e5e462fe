use Rattle.std.proofs.Common.{refl}
use Rattle.ab_cert.specs.Texts.{text_of}
use Rattle.ab_cert.proofs.Items.{one_cert}
use Rattle.ab_cert.proofs.round_trip.text_is_read_back.Goals as goal

pub returns : goal.returns
returns c = record {
  same = λ items h. record { cert = h; spelled = refl };
  only = λ items others h t. one_cert (text_of items) others items t (record { cert = h; spelled = refl });
}
