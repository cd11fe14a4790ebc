use Rattle.std.proofs.Common.{◌≡◌, [], ◌∷◌, ◌++◌, length, ap, sym, subst, ◌∙◌, arith, append-nil}
use Rattle.std.proofs.lemmas.List.{length-map}
use Rattle.std.specs.List.{IsDistinct}
use Rattle.std.specs.Map.{keys_of}
use Rattle.indexmap.specs.IndexMap.{spare}
use Rattle.tables.proofs.NameTables.{nothing, put_last, same_key, table_of}
use Rattle.tables.proofs.name_table.NameTable.move_to.Goals as goal

pub loop-name-init : goal.loop-name-init
loop-name-init g c =
    let all = c.into_iter-name-iterator.result in
    let es = c.self.inside.values.entries in
    let none : c.room.inside.values.entries ≡ [] = nothing c.room.inside.values.entries (ap (λ t. t.values) c.room.view_is ∙ c.requires.empty) in
    let rows : all ≡ es = c.into_iter-name-iterator.ensures.into_iter_gives.0 in
    let long : length all ≡ length c.args.self.values = ap length rows ∙ sym (length-map es (λ e. (e.0.items, e.1))) ∙ ap (λ t. length t.values) c.self.view_is in
    let wide : spare c.room.inside.values ≡ c.args.room.room = ap (λ t. t.room) c.room.view_is in
    (tt, tt, ap (λ l. l ++ all) none, omega (arith, c.requires.wide))

pub unwrap-requires : goal.unwrap-requires
unwrap-requires g c = c.insert.ensures.succeeds (omega (arith, c.loop-name.invariant.3))

pub loop-name-preserved : goal.loop-name-preserved
loop-name-preserved g c =
    let inv = c.loop-name.invariant in
    let es = c.loop-name.values.entries in
    let rest = c.next.new.self in
    let all = c.into_iter-name-iterator.result in
    let given = c.into_iter-name-iterator.ensures.into_iter_gives in
    let more : c.loop-name.name-iterator ≡ (c.in-Some.name, c.in-Some.value) ∷ rest = c.in-Some.ensures.steps in
    let distinct : IsDistinct same_key (keys_of all) = subst (λ l. IsDistinct same_key (keys_of l)) (sym given.0) given.4 in
    let entries = rw c.unwrap.ensures at c.insert.ensures.entries in (
      tt,
      tt,
      put_last es rest all c.insert.new.self.entries (c.in-Some.name, c.in-Some.value) distinct (ap (λ l. es ++ l) (sym more) ∙ inv.2) entries,
      omega (arith, c.insert.ensures.spare, inv.3, ap length more),
    )

pub returns-clause-values : goal.returns-clause-values
returns-clause-values g c =
    let es = c.loop-name.values.entries in
    let none : c.loop-name.name-iterator ≡ [] = c.in-None.ensures.steps.0 in
    let all : es ≡ c.self.inside.values.entries = sym (append-nil es) ∙ ap (λ l. es ++ l) (sym none) ∙ c.loop-name.invariant.2 ∙ c.into_iter-name-iterator.ensures.into_iter_gives.0 in
    ap table_of all ∙ ap (λ t. t.values) c.self.view_is

pub returns-clause-room : goal.returns-clause-room
returns-clause-room g c = omega (arith, c.loop-name.invariant.3)
