-- Each saved edit of a configuration has a line that is not too long.
use Rattle.std.proofs.Common.{◌≡◌, ◌≤◌, ◌++◌, ◌∷◌, [], ℕ, true, not, ◌&&◌, List, IsTrue, length, nat_le, flat_map, Ok, refl, ap, ◌∙◌, arith, lit≤}
use Rattle.std.proofs.lemmas.Bool.{and_parts, cond_both, leb-true}
use Rattle.std.proofs.lemmas.List.Elements.{recursion_from_All}
use Rattle.std.specs.Char.{is_ascii_graphic}
use Rattle.std.specs.List.{AllByRecursion, list_all}
use Rattle.config_lists.specs.declared.allow.Allow.{Allow}
use Rattle.config_lists.specs.declared.group_state.GroupState.{GroupState}
use Rattle.config_lists.specs.declared.host.Host.{Host}
use Rattle.config_lists.specs.declared.link.Link.{Link}
use Rattle.config_lists.specs.declared.namespace.Namespace.{Namespace}
use Rattle.config_lists.specs.declared.port.Port.{Port}
use Rattle.config_lists.specs.declared.show.Show.{Show}
use Rattle.config_lists.specs.declared.subsystem.Subsystem.{Subsystem}
use Rattle.config_lists.specs.Namespace.{is_for_all}
use Rattle.config_lists.specs.Port.{is_address, is_port, is_port_number}
use Rattle.config_lists.specs.Subsystem.{is_discovery, is_serial, is_subsystem}
use Rattle.config_lists.specs.Text.{is_word}
use Rattle.config_lists.specs.declared.edit.Edit.{Edit}
use Rattle.config_lists.specs.declared.edit.Edit.TheVariants.{HostDel, NamespaceView}
use Rattle.nvt_config.specs.Configuration.{Configuration, disks_alone}
use Rattle.nvt_config.specs.Valid.{IsValid}
use Rattle.config_text.specs.EditLine.{IsSayable}
use Rattle.config_text.proofs.EditLemmas.{one_edit}
use Rattle.config_text.specs.Lines.{lines_of}
use Rattle.config_saved.specs.Saved.{after_all, edits_of_allow, edits_of_host, edits_of_link, edits_of_namespace, edits_of_port, edits_of_referral, edits_of_show, edits_of_state, edits_of_subsystem, saved_edits}
use Rattle.config_saved.specs.Text.{AreLinesOf, saved_text}
use Rattle.config_saved.proofs.Whole.{saved_gives_equal}
use Rattle.config_saved.proofs.Lines.{HasShortLine, lines_of-text_of}

abbrev AreShort : List Edit → Type 0
AreShort = AllByRecursion HasShortLine

both_short : (xs ys : List Edit) → AreShort xs → AreShort ys → AreShort (xs ++ ys)
both_short [] ys first second = second
both_short (x ∷ xs) ys first second = (first.0, both_short xs ys first.1 second)

each_short : {X : Type 0} (P : X → Type 0) (edits_of : X → List Edit) → ((x : X) → P x → AreShort (edits_of x)) → (xs : List X) → AllByRecursion P xs → AreShort (flat_map edits_of xs)
each_short P edits_of short [] all = tt
each_short P edits_of short (x ∷ xs) all = both_short (edits_of x) (flat_map edits_of xs) (short x all.0) (each_short P edits_of short xs all.1)

all_short : {X : Type 0} (edits_of : X → List Edit) → ((x : X) → AreShort (edits_of x)) → (xs : List X) → AreShort (flat_map edits_of xs)
all_short edits_of short [] = tt
all_short edits_of short (x ∷ xs) = both_short (edits_of x) (flat_map edits_of xs) (short x) (all_short edits_of short xs)

word_short : (most : ℕ) (text : List ℕ) → is_word most text ≡ true → length text ≤ most
word_short most text is =
    let bound = (and_parts (nat_le 1 (length text)) (nat_le (length text) most && list_all is_ascii_graphic text) is).1 in
    leb-true (length text) most (and_parts (nat_le (length text) most) (list_all is_ascii_graphic text) bound).0

subsystem_short : (s : Subsystem) → IsTrue (is_subsystem s) → AreShort (edits_of_subsystem s)
subsystem_short s sound =
    let serial : length s.serial ≤ 20 = word_short 20 s.serial (and_parts (not (is_discovery s.nqn)) (is_serial s.serial) sound).1 in
    (record { texts = (tt, (omega arith, (tt, tt))); most = lit≤ tt; head = refl }, tt)

namespace_short : (n : Namespace) → AreShort (edits_of_namespace n)
namespace_short n = (
  record { texts = (tt, (tt, (tt, (tt, (tt, (tt, (tt, tt))))))); most = lit≤ tt; head = refl },
  cond_both (is_for_all n.visibility) [] (NamespaceView n.subsystem n.nsid n.visibility ∷ []) AreShort (λ _. tt) (λ _. (record { texts = (tt, (tt, (tt, tt))); most = lit≤ tt; head = refl }, tt)),
)

address_short : (p : Port) → IsTrue (is_port p) → length p.address ≤ 256
address_short p sound =
    let others = (and_parts (is_port_number p.id) (is_address p.address && is_port_number p.service) sound).1 in
    word_short 256 p.address (and_parts (is_address p.address) (is_port_number p.service) others).0

port_short : (p : Port) → IsTrue (is_port p) → AreShort (edits_of_port p)
port_short p sound = (record { texts = (tt, (tt, (address_short p sound, (tt, tt)))); most = lit≤ tt; head = refl }, tt)

link_short : (l : Link) → AreShort (edits_of_link l)
link_short l = (record { texts = (tt, (tt, tt)); most = lit≤ tt; head = refl }, tt)

state_short : (s : GroupState) → AreShort (edits_of_state s)
state_short s = (record { texts = (tt, (tt, (tt, (tt, tt)))); most = lit≤ tt; head = refl }, tt)

host_short : (h : Host) → AreShort (edits_of_host h)
host_short h = (
  record { texts = (tt, tt); most = lit≤ tt; head = refl },
  cond_both h.live [] (HostDel h.nqn ∷ []) AreShort (λ _. tt) (λ _. (record { texts = (tt, tt); most = lit≤ tt; head = refl }, tt)),
)

allow_short : (a : Allow) → AreShort (edits_of_allow a)
allow_short a = (record { texts = (tt, (tt, tt)); most = lit≤ tt; head = refl }, tt)

show_short : (s : Show) → AreShort (edits_of_show s)
show_short s = (record { texts = (tt, (tt, (tt, tt))); most = lit≤ tt; head = refl }, tt)

referral_short : (p : Port) → IsTrue (is_port p) → AreShort (edits_of_referral p)
referral_short p sound = (record { texts = (tt, (tt, (address_short p sound, (tt, tt)))); most = lit≤ tt; head = refl }, tt)

saved_are_short : (c : Configuration) → IsValid c → AreShort (saved_edits c)
saved_are_short c valid =
    both_short (flat_map edits_of_subsystem c.subsystems) _ (each_short (λ (s : Subsystem). IsTrue (is_subsystem s)) edits_of_subsystem subsystem_short c.subsystems (recursion_from_All (λ (s : Subsystem). IsTrue (is_subsystem s)) c.subsystems valid.subsystems.sound))
    (both_short (flat_map edits_of_namespace c.namespaces) _ (all_short edits_of_namespace namespace_short c.namespaces)
    (both_short (flat_map edits_of_port c.ports) _ (each_short (λ (p : Port). IsTrue (is_port p)) edits_of_port port_short c.ports (recursion_from_All (λ (p : Port). IsTrue (is_port p)) c.ports valid.ports.sound))
    (both_short (flat_map edits_of_link c.links) _ (all_short edits_of_link link_short c.links)
    (both_short (flat_map edits_of_state c.states) _ (all_short edits_of_state state_short c.states)
    (both_short (flat_map edits_of_host c.hosts) _ (all_short edits_of_host host_short c.hosts)
    (both_short (flat_map edits_of_allow c.allows) _ (all_short edits_of_allow allow_short c.allows)
    (both_short (flat_map edits_of_show c.shows) _ (all_short edits_of_show show_short c.shows)
    (each_short (λ (p : Port). IsTrue (is_port p)) edits_of_referral referral_short c.referrals (recursion_from_All (λ (p : Port). IsTrue (is_port p)) c.referrals valid.referrals.sound)))))))))

-- the lines of the saved text are those of the saved edits
pub saved_text_read_back : (c : Configuration) → IsValid c → AllByRecursion IsSayable (saved_edits c) → AreLinesOf (lines_of (saved_text c)) (saved_edits c)
saved_text_read_back c valid sayable = lines_of-text_of (saved_edits c) sayable (saved_are_short c valid)

-- the same lines are those of the same edits
same_edits : (lines : List (List ℕ)) (edits others : List Edit) → AreLinesOf lines edits → AreLinesOf lines others → edits ≡ others
same_edits [] [] [] first second = refl
same_edits [] [] (other ∷ others) first second = absurd second
same_edits [] (edit ∷ edits) others first second = absurd first
same_edits (line ∷ lines) [] others first second = absurd first
same_edits (line ∷ lines) (edit ∷ edits) [] first second = absurd second
same_edits (line ∷ lines) (edit ∷ edits) (other ∷ others) first second =
    ap (λ e. e ∷ edits) (one_edit line edit other first.0 second.0) ∙ ap (λ l. other ∷ l) (same_edits lines edits others first.1 second.1)

-- so what is read of the text gives an equal configuration
pub read_edits_give_equal : (c : Configuration) (edits : List Edit) → IsValid c → AllByRecursion IsSayable (saved_edits c) → AreLinesOf (lines_of (saved_text c)) edits → after_all (disks_alone c.units) edits ≡ Ok c
read_edits_give_equal c edits valid sayable are =
    ap (after_all (disks_alone c.units)) (same_edits (lines_of (saved_text c)) edits (saved_edits c) are (saved_text_read_back c valid sayable))
    ∙ saved_gives_equal c valid
