-- The laws of the comparison of two records.
use Rattle.std.specs.Cmp.{IsPartialEquivalence, and_equiv, nat_eq_equiv, on_equiv, partial_equiv_from_equiv}
use Rattle.std.specs.Cmp.Lexicographic.{nat_list_eq_equiv}
use Rattle.discovery_view.specs.Record.{family_code, same_parts, subtype_code}

pub same_parts_laws : IsPartialEquivalence same_parts
same_parts_laws =
    partial_equiv_from_equiv (and_equiv (on_equiv (λ p. subtype_code p.subtype) nat_eq_equiv)
    (and_equiv (on_equiv (λ p. family_code p.family) nat_eq_equiv)
    (and_equiv (on_equiv (λ p. p.port) nat_eq_equiv) (and_equiv (on_equiv (λ p. p.service) nat_eq_equiv)
    (and_equiv (on_equiv (λ p. p.nqn) nat_list_eq_equiv) (on_equiv (λ p. p.address) nat_list_eq_equiv))))))
