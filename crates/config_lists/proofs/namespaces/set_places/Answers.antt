use Rattle.std.proofs.Common.{◌≡◌, ◌<◌, ◌==◌, ◌&&◌, false, filter, length, take, ap, sym, ◌∙◌, arith, inl, inr}
use Rattle.std.proofs.lemmas.Bool.{and_parts, cases_Bool}
use Rattle.std.specs.Str.{bytes_eq}
use Rattle.config_lists.specs.declared.namespace.Namespace.{Namespace}
use Rattle.config_lists.specs.Namespace.{is_named}
use Rattle.config_lists.specs.Show.{is_seen}
use Rattle.config_lists.specs.NsidSet.{with_nsid}
use Rattle.config_lists.specs.Onlooker.{Looking}
use Rattle.config_lists.proofs.Tables.{length_of_put, seen_more, seen_past, table_first, table_passed, table_put, unowned}
use Rattle.config_lists.proofs.Taken.{none_taken, one_taken}
use Rattle.config_lists.proofs.namespaces.set_places.Goals as goal
use Rattle.config_lists.proofs.namespaces.set_places.Goals.{else-sees, then-sees}

pub loop-namespace-init : goal.loop-namespace-init
loop-namespace-init c = record {
  table = table_first (is_named c.args.subsystem.now) c.args.places.now c.requires.empty;
  taken = c.requires.none ∙ none_taken c.args.places.now c.requires.empty;
  len = omega arith;
}

pub loop-namespace-preserved : goal.loop-namespace-preserved
loop-namespace-preserved c =
    let all = c.args.namespaces.now in
    let n = c.namespace-item.result in
    let i = c.loop-namespace.namespace-index in
    let below : i < length all = c.loop-namespace-test.true in
    let subsystem = c.args.subsystem.now in
    let seen : Namespace → _ = is_seen c.args.shows.now c.args.host.now in
    let own = bytes_eq n.subsystem subsystem in
    let looks : c.sees.result ≡ (own && seen n) =
    c.sees.ensures ∙ ap (λ (v : Looking). bytes_eq n.subsystem v.subsystem && is_seen v.shows v.host n) c.new-onlooker.ensures in
    elim c.if-sees.branch [
      | then-sees w ↦
          let both = and_parts own (seen n) (sym looks ∙ w.if-sees.true) in
          let done = seen_more seen all i n below c.namespace-item.is both.1 in
          let put = table_put (is_named subsystem) (filter seen (take i all)) _ c.loop-namespace.places n.nsid (λ k. ap (λ b. b && (n.nsid == k)) both.0) c.loop-namespace.invariant.table in
          let taken = one_taken c.loop-namespace.places n.nsid _ c.loop-namespace.invariant.len in
          record {
            table = rw (done, w.places-is, w.put_first.ensures) put;
            taken = rw (w.taken-is, w.places-is, w.put_first.ensures) (w.insert.ensures ∙ ap (with_nsid n.nsid) c.loop-namespace.invariant.taken ∙ taken);
            len = rw (w.places-is, w.put_first.ensures) (length_of_put c.loop-namespace.places n.nsid _ ∙ c.loop-namespace.invariant.len);
          }
      | else-sees w ↦
          let fails : (own && seen n) ≡ false = sym looks ∙ w.if-sees.false in
          record {
            table = rw (w.places-is) (elim (cases_Bool (seen n)) [
              | inl there ↦
                  let elsewhere = unowned own (seen n) fails there in
                  rw (seen_more seen all i n below c.namespace-item.is there) (table_passed (is_named subsystem) (filter seen (take i all)) n c.loop-namespace.places (λ k. ap (λ b. b && (n.nsid == k)) elsewhere) c.loop-namespace.invariant.table)
              | inr unseen ↦ rw (seen_past seen all i n below c.namespace-item.is unseen) c.loop-namespace.invariant.table
            ]);
            taken = rw (w.taken-is, w.places-is) c.loop-namespace.invariant.taken;
            len = rw (w.places-is) c.loop-namespace.invariant.len;
          }
    ]
