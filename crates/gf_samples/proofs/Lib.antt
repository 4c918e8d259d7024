pub mod PushLaws  -- lists, one element further
