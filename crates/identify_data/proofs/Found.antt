-- The fields of each of the tables lie apart, so that they are found.
use Rattle.std.proofs.Common.{None, ◌≡◌, ◌+◌, ◌≤◌, length, replicate, refl, arith, rules}
use Rattle.config_lists.specs.declared.namespace.Namespace.{Namespace}
use Rattle.nvt_fields.specs.Field.{padded}
use Rattle.identify_data.specs.Controller.{Controller, io, discovery, TextsFit, controller_data, controller_fields, serial_of, subnqn_of}
use Rattle.identify_data.specs.Descriptors.{descriptor_fields, descriptor_list}
use Rattle.identify_data.specs.Fields.{table}
use Rattle.identify_data.specs.Laws.{FieldsAreFound}
use Rattle.identify_data.specs.Namespace.{namespace_data, namespace_fields}
use Rattle.identify_data.proofs.Tables.{AreApart, shown}
use Rattle.identify_data.proofs.Written.{length-padded}

serial_fits : (c : Controller) → TextsFit c → length (padded 20 0x20 (serial_of c)) ≡ 20
serial_fits (io cntlid serial subnqn) fits = length-padded 20 0x20 serial fits.0
serial_fits (discovery cntlid) fits = refl

pub subnqn_fits : (c : Controller) → TextsFit c → length (padded 256 0 (subnqn_of c)) ≡ 256
subnqn_fits (io cntlid serial subnqn) fits = length-padded 256 0 subnqn fits.1
subnqn_fits (discovery cntlid) fits = refl

namespace_apart : (n : Namespace) → AreApart 4096 0 (namespace_fields n)
namespace_apart n = search rules

descriptors_apart : (n : Namespace) → length n.uuid ≡ 16 → AreApart 4096 0 (descriptor_fields n)
descriptors_apart n whole = (omega arith, (omega arith, (omega arith, omega arith)))

controller_apart : (c : Controller) → TextsFit c → AreApart 4096 0 (controller_fields c)
controller_apart c fits =
    let serial : 4 + length (padded 20 0x20 (serial_of c)) ≤ 24 = omega (arith, serial_fits c fits) in
    let subnqn : 768 + length (padded 256 0 (subnqn_of c)) ≤ 1792 = omega (arith, subnqn_fits c fits) in
    search (rules, serial, subnqn)

no_fields : namespace_data None ≡ replicate 4096 0
unfolding namespace_data table
no_fields = refl

pub fields_are_found : FieldsAreFound
unfolding controller_data namespace_data descriptor_list
fields_are_found = record {
  controllers = λ c fits. shown (controller_fields c) (controller_apart c fits);
  namespaces = λ n. shown (namespace_fields n) (namespace_apart n);
  no_namespace = no_fields;
  descriptors = λ n whole. shown (descriptor_fields n) (descriptors_apart n whole);
}
