use Rattle.std.proofs.Common.{◌≡◌, ℕ, length, replicate, rules}
use Rattle.identify_data.proofs.Parts.{table_of_none}
use Rattle.identify_data.proofs.fields.clear.Goals as goal

pub returns : goal.returns
returns c =
    let zeros : c.fill.new.self ≡ replicate {A = ℕ} (length c.args.structure.now) 0 = search rules in
    table_of_none (length c.args.structure.now) c.fill.new.self c.requires zeros
