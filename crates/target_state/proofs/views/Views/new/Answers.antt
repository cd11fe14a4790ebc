use Rattle.target_state.proofs.Together.{all_there}
use Rattle.target_state.proofs.views.Views.new.Goals as goal

pub returns-clause-shown : goal.returns-clause-shown
returns-clause-shown c =
    let there = all_there c.in_ok-discovery.discovery c.«in_ok-discovery-2».discovery c.«in_ok-discovery-3».discovery c.new-3.result
    c.«in_ok-discovery-2».active c.«in_ok-discovery-3».active c.new-4.result c.«in_ok-discovery-3».ana
    c.both.result c.both-2.result c.both.ensures c.«in_ok-discovery-2».was c.both-2.ensures c.«in_ok-discovery-3».was in
    record {
      discovery = rw there.0 at c.in_ok-discovery.ensures.shown;
      active = rw there.1 at c.new-3.ensures;
      ana = rw there.2 at c.new-4.ensures;
    }

pub returns-clause-of : goal.returns-clause-of
returns-clause-of c =
    let there = all_there c.in_ok-discovery.discovery c.«in_ok-discovery-2».discovery c.«in_ok-discovery-3».discovery c.new-3.result
    c.«in_ok-discovery-2».active c.«in_ok-discovery-3».active c.new-4.result c.«in_ok-discovery-3».ana
    c.both.result c.both-2.result c.both.ensures c.«in_ok-discovery-2».was c.both-2.ensures c.«in_ok-discovery-3».was in
    record {
      discovery = rw there.0 at c.in_ok-discovery.ensures.of;
      active = rw there.1 at c.new-3.ensures;
      ana = rw there.2 at c.new-4.ensures;
    }
