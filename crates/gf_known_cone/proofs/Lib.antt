mod NearLaws  -- what a vector shows, normal by normal
