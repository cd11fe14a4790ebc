use Rattle.std.proofs.Common.{◌≡◌, Bool, List, ℕ, None, [], filter, get_or, length, refl, ap, sym, ◌∙◌}
use Rattle.std.proofs.lemmas.List.{get_or-replicate, length-map, length-replicate}
use Rattle.std.specs.Option.{option_copied}
use Rattle.ana_view.specs.Tables.{each_of, is_member, nsids_of}
use Rattle.ana_view.proofs.Members.{members_next, members_of}
use Rattle.ana_view.proofs.groups.Groups.members.Goals as goal

pub loop-nsid-init : goal.loop-nsid-init
loop-nsid-init c = record {
  next = tt;
  finite = tt;
  len = sym (length-map c.in_ok-members.members.items (λ v. v.items)) ∙ ap length c.in_ok-members.ensures ∙ length-replicate {A = List ℕ} 33 [];
  all = λ group few.
      let p : ℕ → Bool = λ n. is_member c.args.self.now.namespaces.now n group in
      rw (c.in_ok-members.ensures, get_or-replicate {A = List ℕ} 33 group [] [] few) (ap (filter p) (c.into_iter-nsid-iterator.ensures.into_iter_gives ∙ c.nsids-nsid-items.ensures.all) ∙ members_of c.args.self.now group);
}

pub loop-nsid-preserved : goal.loop-nsid-preserved
loop-nsid-preserved c = record {
  next = tt;
  finite = tt;
  len = c.loop-nsid.invariant.len;
  all = λ group few.
      let p : ℕ → Bool = λ n. is_member c.args.self.now.namespaces.now n group in
      let old = get_or (each_of c.loop-nsid.members) group [] in
      let so_far = rw c.in-Some.ensures.steps at (c.loop-nsid.invariant.all group few) in
      let none : get_or c.args.self.now.namespaces.now c.in-Some.nsid None ≡ None = sym c.get.ensures ∙ ap option_copied c.in_default.is in
      members_next p c.in-Some.nsid c.next.new.self old old (nsids_of c.args.self.now group) (rw none refl) so_far;
}
