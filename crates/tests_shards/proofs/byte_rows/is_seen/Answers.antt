use Rattle.tests_shards.proofs.byte_rows.is_seen.Goals as goal

pub invariant_of-second : goal.invariant_of-second
invariant_of-second g c =
    record { seated = c.see.ensures.seated g.B.ShardNaming.names c.opens.new.self.seated }

pub invariant_of-second-2 : goal.invariant_of-second-2
invariant_of-second-2 g c =
    record { seated = c.see-2.ensures.seated g.B.ShardNaming.names c.reads.new.self.seated }
