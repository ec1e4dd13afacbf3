use Rattle.std.proofs.Common.{arith}
use Rattle.bay_ber.specs.declared.fault.BerFault.TheVariants.{Truncated, Indefinite, LengthTooLong, TagTooLarge}
use Rattle.bay_ber.proofs.ReadLemmas.{is_ok, is-only, is-shorter, is_err, err-is-answer, tlv-fault, large-tag-again, indefinite-again, long-length-again, truncated-holds, truncated-again}
use Rattle.bay_ber.proofs.tlv.read_tlv.Goals as goal

pub returns-clause-ok : goal.returns-clause-ok
returns-clause-ok c =
    is_ok c.args.octets.now c.tlv_at.result (λ i. omega (arith, c.type_inv.octets i))
    c.tlv_at.ensures

pub returns-clause-only : goal.returns-clause-only
returns-clause-only c =
    λ r begins. is-only c.args.octets.now c.tlv_at.result r c.tlv_at.ensures begins

pub returns-clause-large_tag : goal.returns-clause-large_tag
returns-clause-large_tag c =
    let octets = c.args.octets.now in (
      λ e. tlv-fault octets TagTooLarge (λ i. omega (arith, c.type_inv.octets i))
          (is_err octets c.tlv_at.result TagTooLarge c.tlv_at.ensures e),
      λ h. err-is-answer octets c.tlv_at.result TagTooLarge c.tlv_at.ensures
          (large-tag-again octets h),
    )

pub returns-clause-indefinite : goal.returns-clause-indefinite
returns-clause-indefinite c =
    let octets = c.args.octets.now in (
      λ e. tlv-fault octets Indefinite (λ i. omega (arith, c.type_inv.octets i))
          (is_err octets c.tlv_at.result Indefinite c.tlv_at.ensures e),
      λ h. err-is-answer octets c.tlv_at.result Indefinite c.tlv_at.ensures
          (indefinite-again octets h),
    )

pub returns-clause-long_length : goal.returns-clause-long_length
returns-clause-long_length c =
    let octets = c.args.octets.now in (
      λ e. tlv-fault octets LengthTooLong (λ i. omega (arith, c.type_inv.octets i))
          (is_err octets c.tlv_at.result LengthTooLong c.tlv_at.ensures e),
      λ h. err-is-answer octets c.tlv_at.result LengthTooLong c.tlv_at.ensures
          (long-length-again octets h),
    )

pub returns-clause-truncated : goal.returns-clause-truncated
returns-clause-truncated c =
    let octets = c.args.octets.now in (
      λ e. truncated-holds octets (is_err octets c.tlv_at.result Truncated c.tlv_at.ensures e),
      λ h. err-is-answer octets c.tlv_at.result Truncated c.tlv_at.ensures
          (truncated-again octets (λ i. omega (arith, c.type_inv.octets i)) h),
    )

pub returns-clause-shorter : goal.returns-clause-shorter
returns-clause-shorter c =
    is-shorter c.args.octets.now c.tlv_at.result (λ i. omega (arith, c.type_inv.octets i))
    c.tlv_at.ensures
